-- The test by labels tells exactly whether the lanes connect all depots; and the laws of ways.
use Rattle.std.proofs.Common.{◌≡◌, ℕ, zero, suc, ◌+◌, ◌-◌, ◌<◌, ◌≤◌, cond, eqb, ltb, leb, ◌⊎◌, List, [], ◌∷◌, map, length, Decides, sym, refl, ap, ◌∙◌, inl, inr, ⊎_elim, arith}
use Rattle.std.proofs.lemmas.List.FromFn.{get_or-range_with_len}
use Rattle.std.proofs.lemmas.List.{get_or-map, length-map}
use Rattle.std.proofs.lemmas.Bool.{cases_eq, leb-true, le-leb, eqb-true, cond_both}
use Rattle.std.proofs.lemmas.Bool.Decides.{nat_tests}
use Rattle.network.specs.declared.lanes.Lane.{Lane}
use Rattle.network.specs.Connected.{EndsWithin, Joins, Adjacent, Way, here, along, Connected, label_at, relabelled, meets, labels_after, parts_after, connects_from, own_labels, connects}

-- ---- ways

pub way_trans : {ls : List Lane} {a b c : ℕ} → Way ls a b → Way ls b c → Way ls a c
way_trans (here e) v = rw e v
way_trans (along s w) v = along s (way_trans w v)

joins_sym : (l : Lane) (a b : ℕ) → Joins l a b → Joins l b a
joins_sym l a b (inl h) = inr h
joins_sym l a b (inr h) = inl h

adjacent_sym : (ls : List Lane) (a b : ℕ) → Adjacent ls a b → Adjacent ls b a
adjacent_sym [] a b h = h
adjacent_sym (l ∷ ls) a b (inl h) = inl (joins_sym l a b h)
adjacent_sym (l ∷ ls) a b (inr h) = inr (adjacent_sym ls a b h)

pub way_sym : {ls : List Lane} {a b : ℕ} → Way ls a b → Way ls b a
way_sym (here e) = here (sym e)
way_sym (along {a} {b} s w) = way_trans (way_sym w) (along (adjacent_sym _ a b s) (here refl))

pub way_mono : {ls ms : List Lane} {a b : ℕ} → ((x y : ℕ) → Adjacent ls x y → Adjacent ms x y) → Way ls a b → Way ms a b
way_mono sub (here e) = here e
way_mono sub (along {a} {b} s w) = along (sub a b s) (way_mono sub w)

-- more lanes, more ways
pub connected_mono : (depots : ℕ) (ls ms : List Lane) → ((a b : ℕ) → Adjacent ls a b → Adjacent ms a b) → Connected depots ls → Connected depots ms
connected_mono depots ls ms sub c a b ab bb = way_mono sub (c a b ab bb)

-- ---- sums over the numbers below a bound

abbrev sum_below : (ℕ → ℕ) → ℕ → ℕ
sum_below h zero = 0
sum_below h (suc n) = h n + sum_below h n

-- c at the place y, and nothing elsewhere
abbrev only_at : ℕ → ℕ → ℕ → ℕ
only_at y c d = cond (eqb y d) c 0

sum_split : (h j k : ℕ → ℕ) (n : ℕ) → ((d : ℕ) → d < n → h d ≡ j d + k d) → sum_below h n ≡ sum_below j n + sum_below k n
sum_split h j k zero eq = refl
sum_split h j k (suc n) eq = omega (arith, eq n (omega arith), sum_split h j k n (λ d b. eq d (omega arith)))

sum_le : (h k : ℕ → ℕ) (n : ℕ) → ((d : ℕ) → d < n → h d ≤ k d) → sum_below h n ≤ sum_below k n
sum_le h k n le = omega (arith, sum_split k h (λ d. k d - h d) n (λ d b. omega (arith, le d b)))

sum_only_at : (y c n : ℕ) → sum_below (only_at y c) n ≡ cond (ltb y n) c 0
sum_only_at y c zero = grind (arith, nat_tests)
sum_only_at y c (suc n) = let below = sum_only_at y c n in grind (arith, nat_tests)

-- ---- labels: f gives the label of each depot, and a root is a depot that is its own label

abbrev root : (ℕ → ℕ) → ℕ → ℕ
root f d = only_at (f d) 1 d

-- the number of roots below n
abbrev roots : (ℕ → ℕ) → ℕ → ℕ
roots f n = sum_below (root f) n

all_roots : (f : ℕ → ℕ) (n : ℕ) → ((d : ℕ) → d < n → f d ≡ d) → roots f n ≡ n
all_roots f zero own = refl
all_roots f (suc n) own = grind (arith, nat_tests, own n (omega arith), all_roots f n (λ d b. own d (omega arith)))

-- one label for all leaves at most one root
one_label : (f : ℕ → ℕ) (x n : ℕ) → ((d : ℕ) → d < n → f d ≡ x) → roots f n ≤ 1
one_label f x n eq =
    grind (arith, nat_tests, sum_only_at x 1 n, sum_le (root f) (only_at x 1) n (λ d b. grind (arith, nat_tests, eq d b)))

two_roots : (f : ℕ → ℕ) (x y n : ℕ) → f x ≡ x → f y ≡ y → x < n → y < n → (x ≡ y → ⊥) → 2 ≤ roots f n
two_roots f x y n fx fy xb yb ne =
    let split = sum_split (λ d. only_at x 1 d + only_at y 1 d) (only_at x 1) (only_at y 1) n (λ d b. refl) in
    let le = sum_le (λ d. only_at x 1 d + only_at y 1 d) (root f) n (λ d b. grind (arith, nat_tests)) in
    grind (arith, nat_tests, sum_only_at x 1 n, sum_only_at y 1 n)

-- when the label y of others becomes x, the root y is gone, and no other
joined_roots : (f g : ℕ → ℕ) (x y n : ℕ) → f x ≡ x → f y ≡ y → y < n → ((d : ℕ) → d < n → g d ≡ relabelled x y (f d)) → cond (eqb x y) (roots f n) (roots f n - 1) ≡ roots g n
joined_roots f g x y n fx fy yb becomes =
    let split = sum_split (root f) (root g) (only_at y (cond (eqb x y) 0 1)) n (λ d b. grind (arith, nat_tests, becomes d b)) in
    grind (arith, nat_tests, sum_only_at y (cond (eqb x y) 0 1) n)

-- ---- the test, lane by lane

-- what holds of the labels f and the number of parts while the lanes `rest` of `all` are still to come
record Parted (n : ℕ) (all : List Lane) (f : ℕ → ℕ) (parts : ℕ) (rest : List Lane) : Type 0 where
  within : (d : ℕ) → d < n → f d < n
  settled : (d : ℕ) → d < n → f (f d) ≡ f d
  counted : parts ≡ roots f n
  reached : (d : ℕ) → d < n → Way all d (f d)
  covered : (a b : ℕ) → Adjacent all a b → (f a ≡ f b) ⊎ Adjacent rest a b
  to_come : (a b : ℕ) → Adjacent rest a b → Adjacent all a b

-- no lane is to come
module _ (n : ℕ) (all : List Lane) (f : ℕ → ℕ) (parts : ℕ) (p : Parted n all f parts []) where
  way_label : {a b : ℕ} → Way all a b → f a ≡ f b
  way_label (here e) = ap f e
  way_label (along {a} {b} s w) = ⊎_elim (λ e. e) absurd (p.covered a b s) ∙ way_label w

  one_part : parts ≤ 1 → (a b : ℕ) → a < n → b < n → f a ≡ f b
  one_part one a b ab bb = ⊎_elim (λ e. e)
      (λ ne. absurd (omega (arith, p.counted, two_roots f (f a) (f b) n (p.settled a ab) (p.settled b bb) (p.within a ab) (p.within b bb) ne)))
      (cases_eq (f a) (f b))

  done_tells : Decides (leb parts 1) (Connected n all)
  done_tells = (
    λ e a b ab bb. way_trans (p.reached a ab) (rw (one_part (leb-true parts 1 e) a b ab bb) (way_sym (p.reached b bb))),
    λ c. le-leb parts 1 (omega (arith, p.counted, one_label f (f 0) n (λ d b. way_label (c d 0 b (omega arith))))),
  )

-- the lane l comes, and the labels f become g
module _ (n : ℕ) (all : List Lane) (ends : (a b : ℕ) → Adjacent all a b → (a < n) × (b < n))
    (f g : ℕ → ℕ) (parts : ℕ) (l : Lane) (rest : List Lane) (p : Parted n all f parts (l ∷ rest))
    (becomes : (d : ℕ) → d < n → g d ≡ relabelled (f l.left) (f l.right) (f d)) where
  lane_in : Adjacent all l.left l.right
  lane_in = p.to_come l.left l.right (inl (inl (refl, refl)))

  left_in : l.left < n
  left_in = (ends l.left l.right lane_in).0

  right_in : l.right < n
  right_in = (ends l.left l.right lane_in).1

  -- from the label that goes to the label that is kept
  across : Way all (f l.right) (f l.left)
  across = way_trans (way_sym (p.reached l.right right_in)) (along (adjacent_sym all l.left l.right lane_in) (p.reached l.left left_in))

  joined_within : (d : ℕ) → d < n → g d < n
  joined_within d b = grind (arith, nat_tests, becomes d b, p.within d b, p.within l.left left_in)

  joined_settled : (d : ℕ) → d < n → g (g d) ≡ g d
  joined_settled d b = grind (arith, nat_tests, becomes d b, becomes (g d) (joined_within d b), p.settled d b, p.settled l.left left_in)

  joined_reached : (d : ℕ) → d < n → Way all d (g d)
  joined_reached d b = rw (becomes d b) (cond_both (eqb (f d) (f l.right)) (f l.left) (f d) (Way all d)
      (λ e. way_trans (p.reached d b) (rw (eqb-true (f d) (f l.right) e) across))
      (λ _. p.reached d b))

  joined_covered : (a b : ℕ) → Adjacent all a b → (g a ≡ g b) ⊎ Adjacent rest a b
  joined_covered a b h = ⊎_elim
      (λ e. inl (grind (arith, nat_tests, becomes a (ends a b h).0, becomes b (ends a b h).1)))
      (⊎_elim (λ j. inl (grind (arith, nat_tests, becomes l.left left_in, becomes l.right right_in))) inr)
      (p.covered a b h)

  joined : Parted n all g (cond (eqb (f l.left) (f l.right)) parts (parts - 1)) rest
  joined = record {
    within = joined_within;
    settled = joined_settled;
    counted = rw p.counted (joined_roots f g (f l.left) (f l.right) n (p.settled l.left left_in) (p.settled l.right right_in) (p.within l.right right_in) becomes);
    reached = joined_reached;
    covered = joined_covered;
    to_come = λ a b h. p.to_come a b (inr h);
  }

label_after : (labels : List ℕ) (l : Lane) (d : ℕ) → d < length labels → label_at (labels_after labels l) d ≡ relabelled (label_at labels l.left) (label_at labels l.right) (label_at labels d)
label_after labels l d b = cond_both (meets labels l) labels (map change labels) (λ after. label_at after d ≡ change (label_at labels d))
    (λ e. grind (arith, nat_tests))
    (λ _. get_or-map change labels d 0 0 b)
  where
    change : ℕ → ℕ
    change = relabelled (label_at labels l.left) (label_at labels l.right)

length_after : (labels : List ℕ) (l : Lane) → length (labels_after labels l) ≡ length labels
length_after labels l = cond_both (meets labels l) labels _ (λ after. length after ≡ length labels) (λ _. refl) (λ _. length-map labels _)

tells_from : (n : ℕ) (all : List Lane) → ((a b : ℕ) → Adjacent all a b → (a < n) × (b < n)) → (labels : List ℕ) (parts : ℕ) (rest : List Lane) → n ≤ length labels → Parted n all (label_at labels) parts rest → Decides (connects_from labels parts rest) (Connected n all)
tells_from n all ends labels parts [] long p = done_tells n all (label_at labels) parts p
tells_from n all ends labels parts (l ∷ rest) long p =
    tells_from n all ends (labels_after labels l) (parts_after labels parts l) rest (omega (arith, length_after labels l))
    (joined n all ends (label_at labels) (label_at (labels_after labels l)) parts l rest p (λ d b. label_after labels l d (omega arith)))

pub adjacent_within : (n : ℕ) (ls : List Lane) → EndsWithin n ls → (a b : ℕ) → Adjacent ls a b → (a < n) × (b < n)
adjacent_within n [] w a b h = absurd h
adjacent_within n (l ∷ ls) w a b (inl j) = omega arith
adjacent_within n (l ∷ ls) w a b (inr h) = adjacent_within n ls w.2 a b h

pub connects_tells : (depots : ℕ) (ls : List Lane) → depots ≤ 10 → EndsWithin depots ls → Decides (connects depots ls) (Connected depots ls)
connects_tells depots ls few w = tells_from depots ls (adjacent_within depots ls w) own_labels depots ls few record {
  within = λ d b. omega (arith, own d b);
  settled = λ d b. ap (label_at own_labels) (own d b);
  counted = sym (all_roots (label_at own_labels) depots own);
  reached = λ d b. here (sym (own d b));
  covered = λ a b h. inr h;
  to_come = λ a b h. h;
}
  where
    own : (d : ℕ) → d < depots → label_at own_labels d ≡ d
    own d b = omega (arith, get_or-range_with_len 0 10 d 0 (omega arith))
