-- One opening, as the code makes it: what is decided of the newest branch is applied to the rest.
use Rattle.std.proofs.Common.{◌≡◌, ℕ, zero, suc, ◌+◌, ◌-◌, ◌^◌, ◌<◌, ◌≤◌, Bool, true, false, cond, ◌&&◌, ◌⊎◌, eqb, List, [], ◌∷◌, ◌++◌, reverse, length, vec_items, Some, Option, sym, refl, ap, ◌∙◌, subst, ⊎_elim, arith, pow_mono}
use lib.Count.{ones, ones-le}
use Rattle.std.proofs.lemmas.List.{length-reverse, reverse-append}
use Rattle.std.proofs.lemmas.Bool.{false≢true, and_from, and_parts, eqb-false, leb-true, le-leb, lt-ltb, ltb-false, ltb-true, or_parts}
use Rattle.search.proofs.Counting.{idle, less_work, many_sum}
use Rattle.search.proofs.Tops.{Top, ones_rest, top_of}
use Rattle.network.specs.Networks.{lanes_of}
use Rattle.network.specs.Sets.{standing_set}
use Rattle.network.specs.declared.lanes.Lane.{Lane}
use Rattle.network.specs.declared.networks.Network.{Network}
use Rattle.network.proofs.Sets.{standing_below}
use Rattle.search.specs.Deciding.{decided}
use Rattle.search.specs.Keeping.{all_given, all_work, best_fits, most_openings, most_pending, shallow}
use Rattle.search.specs.Opening.{Problem, Progress, dropped, highest, opened, open_from, open_many, open_one, reaches, start_over, too_dear, with_lane, without}
use Rattle.search.specs.Searching.{Held, is_ended, progress_of}
use Rattle.search.specs.declared.searching.Search.TheInside.{Inside}
use Rattle.search.specs.declared.branches.Branch.{Branch}
use Rattle.search.specs.declared.branches.Opening.{Opening}
use Rattle.search.specs.declared.branches.Opening.TheVariants.{Dropped, Missed, Reached, Split}

-- what the code does with a decision
abbrev pub applied : Opening → Branch → List Branch → Option ℕ → ℕ → Progress
applied Dropped b rest best made = record { pending = rest; best = best; openings = made + 1 }
applied Missed b rest best made = record { pending = rest; best = best; openings = made + 1 }
applied Reached b rest best made = record { pending = rest; best = Some b.picked; openings = made + 1 }
applied (Split one two) b rest best made = record { pending = one ∷ (two ∷ rest); best = best; openings = made + 1 }

pub applied_opened : (p : Problem) (best : Option ℕ) (b : Branch) (rest : List Branch) (made : ℕ) → applied (decided p best b) b rest best made ≡ opened p b rest best made
applied_opened p best b rest made = by_case (dropped p best b) (eqb b.undecided 0) (reaches p b.picked)
  where
    by_case : (drop leaf reach : Bool) → applied (cond drop Dropped (cond leaf (cond reach Reached Missed) (Split (without b) (with_lane b)))) b rest best made ≡ record { pending = cond drop rest (cond leaf rest (without b ∷ (with_lane b ∷ rest))); best = cond drop best (cond (leaf && reach) (Some b.picked) best); openings = made + 1 }
    by_case true leaf reach = refl
    by_case false true true = refl
    by_case false true false = refl
    by_case false false reach = refl

-- the newest branch is the last of the code's list
pub newest : (items rest : List Branch) (b : Branch) → items ≡ rest ++ (b ∷ []) → reverse items ≡ b ∷ reverse rest
newest items rest b is = ap reverse is ∙ reverse-append rest (b ∷ [])

-- what was decided of the newest branch, applied, is one opening
pub led : (p : Problem) (best : Option ℕ) (b : Branch) (items rest : List Branch) (made : ℕ) (o : Opening) → o ≡ decided p best b → items ≡ rest ++ (b ∷ []) → applied o b (reverse rest) best made ≡ open_from p (reverse items) best made
led p best b items rest made o is last =
    ap (λ (d : Opening). applied d b (reverse rest) best made) is
    ∙ applied_opened p best b (reverse rest) made
    ∙ sym (ap (λ (bs : List Branch). open_from p bs best made) (newest items rest b last))

-- ---- what an opening keeps

-- a branch of at most twenty lanes that is not one set has a highest lane
given_top : (n : ℕ) (b : Branch) → n ≤ 20 → b.picked + b.undecided < 2 ^ n → 0 < b.undecided → Top b.undecided
given_top n b few low some =
    let more : 2 ^ n ≤ 2 ^ 20 = pow_mono {i = n} {j = 20} few in
    top_of b.undecided some (omega arith)

module _ (n : ℕ) (few : n ≤ 20) (b : Branch) (rest : List Branch) (given : all_given n (b ∷ rest) ≡ true) where
  inside : b.picked + b.undecided < 2 ^ n
  inside = ltb-true _ _ (and_parts _ _ given).0

  keeps_given : (drop leaf : Bool) → eqb b.undecided 0 ≡ leaf → all_given n (cond drop rest (cond leaf rest (without b ∷ (with_lane b ∷ rest)))) ≡ true
  keeps_given true leaf is = (and_parts _ _ given).1
  keeps_given false true is = (and_parts _ _ given).1
  keeps_given false false is =
      let differ = eqb-false b.undecided 0 is in
      let above = given_top n b few inside (omega arith) in
      let lane = 2 ^ highest b.undecided in
      let one : b.picked + (b.undecided - lane) < 2 ^ n = omega (arith, inside) in
      let two : b.picked + lane + (b.undecided - lane) < 2 ^ n = omega (arith, inside, above.lane) in
      and_from _ _ (lt-ltb _ _ one) (and_from _ _ (lt-ltb _ _ two) (and_parts _ _ given).1)

  keeps_shallow : shallow (b ∷ rest) ≡ true → (drop leaf : Bool) → eqb b.undecided 0 ≡ leaf → shallow (cond drop rest (cond leaf rest (without b ∷ (with_lane b ∷ rest)))) ≡ true
  keeps_shallow low true leaf is = (and_parts _ _ low).1
  keeps_shallow low false true is = (and_parts _ _ low).1
  keeps_shallow low false false is =
      let differ = eqb-false b.undecided 0 is in
      let above = given_top n b few inside (omega arith) in
      let depth : length rest + 1 + ones b.undecided ≤ most_pending = leb-true _ _ (and_parts _ _ low).0 in
      let left = ones (b.undecided - 2 ^ highest b.undecided) in
      let one : length (with_lane b ∷ rest) + 1 + left ≤ most_pending = omega (arith, depth, ones_rest b.undecided above) in
      let two : length rest + 1 + left ≤ most_pending = omega (arith, depth, ones_rest b.undecided above) in
      and_from _ _ (le-leb _ _ one) (and_from _ _ (le-leb _ _ two) (and_parts _ _ low).1)

  takes_work : (drop leaf : Bool) → eqb b.undecided 0 ≡ leaf → all_work (cond drop rest (cond leaf rest (without b ∷ (with_lane b ∷ rest)))) + 1 ≤ all_work (b ∷ rest)
  takes_work drop leaf is = less_work b rest (given_top n b few inside) drop leaf is

-- an opening of branches of given lanes leaves such branches, in their room, with the work that is left
pub record Kept (n : ℕ) (x : Progress) : Type 0 where
  pub given : all_given n x.pending ≡ true
  pub low : shallow x.pending ≡ true
  pub counted : x.openings + all_work x.pending ≤ most_openings

pub given_from : (p : Problem) (n : ℕ) → n ≤ 20 → (bs : List Branch) (best : Option ℕ) (made : ℕ) → all_given n bs ≡ true → all_given n (open_from p bs best made).pending ≡ true
given_from p n few [] best made given = given
given_from p n few (b ∷ rest) best made given = keeps_given n few b rest given (dropped p best b) (eqb b.undecided 0) refl

pub keeps : (p : Problem) (n : ℕ) → n ≤ 20 → (bs : List Branch) (best : Option ℕ) (made : ℕ) → Kept n (record { pending = bs; best = best; openings = made }) → Kept n (open_from p bs best made)
keeps p n few [] best made kept = record { given = kept.given; low = kept.low; counted = kept.counted }
keeps p n few (b ∷ rest) best made kept =
    record {
      given = given_from p n few (b ∷ rest) best made kept.given;
      low = keeps_shallow n few b rest kept.given kept.low (dropped p best b) (eqb b.undecided 0) refl;
      counted = omega (arith, takes_work n few b rest kept.given (dropped p best b) (eqb b.undecided 0) refl, kept.counted);
    }

pub keeps_many : (p : Problem) (n : ℕ) → n ≤ 20 → (w : ℕ) (x : Progress) → Kept n x → Kept n (open_many p w x)
keeps_many p n few zero x kept = kept
keeps_many p n few (suc w) x kept = keeps_many p n few w (open_one p x) (keeps p n few x.pending x.best x.openings kept)

-- ---- the best set is one that may be asked about

fits_after : (p : Problem) (n : ℕ) (b : Branch) (best : Option ℕ) → b.picked + b.undecided < 2 ^ n → best_fits n p.most best ≡ true → (drop leaf : Bool) → dropped p best b ≡ drop → best_fits n p.most (cond drop best (cond (leaf && reaches p b.picked) (Some b.picked) best)) ≡ true
fits_after p n b best inside fits true leaf is = fits
fits_after p n b best inside fits false false is = fits
fits_after p n b best inside fits false true is = by_goal (reaches p b.picked)
  where
    by_goal : (goal : Bool) → best_fits n p.most (cond goal (Some b.picked) best) ≡ true
    by_goal false = fits
    by_goal true =
        let below : b.picked < 2 ^ n = omega (arith, inside) in
        and_from _ _ (lt-ltb _ _ below) (le-leb _ _ (ltb-false p.most (ones b.picked) (or_parts _ _ (or_parts (too_dear p.lanes best b.picked) _ is).1).0))

fits_from : (p : Problem) (n : ℕ) (bs : List Branch) (best : Option ℕ) (made : ℕ) → all_given n bs ≡ true → best_fits n p.most best ≡ true → best_fits n p.most (open_from p bs best made).best ≡ true
fits_from p n [] best made given fits = fits
fits_from p n (b ∷ rest) best made given fits =
    fits_after p n b best (ltb-true _ _ (and_parts _ _ given).0) fits (dropped p best b) (eqb b.undecided 0) refl

pub fits_many : (p : Problem) (n : ℕ) → n ≤ 20 → (w : ℕ) (x : Progress) → all_given n x.pending ≡ true → best_fits n p.most x.best ≡ true → best_fits n p.most (open_many p w x).best ≡ true
fits_many p n few zero x given fits = fits
fits_many p n few (suc w) x given fits =
    fits_many p n few w (open_one p x) (given_from p n few x.pending x.best x.openings given) (fits_from p n x.pending x.best x.openings given fits)

-- ---- one opening on the code's own parts

-- what was decided of the newest branch, applied, keeps what an opening keeps
pub keeps_led : (p : Problem) (n : ℕ) → n ≤ 20 → (parts : Inside) (x : Progress) → progress_of parts ≡ x → all_given n x.pending ≡ true → Held parts → (b : Branch) (rest : List Branch) → vec_items parts.pending ≡ rest ++ (b ∷ []) → (o : Opening) → o ≡ decided p parts.best b → Kept n (applied o b (reverse rest) parts.best parts.openings)
keeps_led p n few parts x is_x given held b rest last o is =
    let before : Kept n (progress_of parts) = record { given = ap (λ (y : Progress). all_given n y.pending) is_x ∙ given; low = held.shallow; counted = held.counted } in
    subst (Kept n) (sym (led p parts.best b (vec_items parts.pending) rest parts.openings o is last)) (keeps p n few (reverse (vec_items parts.pending)) parts.best parts.openings before)

-- a branch that is dropped, or misses the goal, leaves the rest
pub passed_over : (o : Opening) → (o ≡ Dropped) ⊎ (o ≡ Missed) → (b : Branch) (rest : List Branch) (best : Option ℕ) (made : ℕ) → applied o b rest best made ≡ record { pending = rest; best = best; openings = made + 1 }
passed_over o either b rest best made =
    ⊎_elim (λ is. ap (λ (d : Opening). applied d b rest best made) is) (λ is. ap (λ (d : Opening). applied d b rest best made) is) either

-- two branches more, the second the newest
pub newest_two : (items middle rest : List Branch) (one two : Branch) → items ≡ middle ++ (one ∷ []) → middle ≡ rest ++ (two ∷ []) → reverse items ≡ one ∷ (two ∷ reverse rest)
newest_two items middle rest one two last before = newest items middle one last ∙ ap (λ (bs : List Branch). one ∷ bs) (newest middle rest two before)

-- there is room for both
pub two_fit : (rest : List Branch) (one two : Branch) → shallow (one ∷ (two ∷ reverse rest)) ≡ true → length rest + 2 ≤ most_pending
two_fit rest one two low =
    let depth : length (two ∷ reverse rest) + 1 + ones one.undecided ≤ most_pending = leb-true _ _ (and_parts _ _ low).0 in
    omega (arith, depth, length-reverse rest)

pub few_lanes : (network : Network) → length (lanes_of network) ≤ 20
few_lanes network = omega (arith, network.lanes.ok.0, network.few)

-- ---- many openings

pub made_next : (p : Problem) (before x y : Progress) (made : ℕ) → x ≡ open_many p made before → y ≡ open_one p x → y ≡ open_many p (made + 1) before
made_next p before x y made far is = is ∙ ap (open_one p) far ∙ sym (many_sum p made 1 before)

-- with none pending, the openings that are left change nothing
pub made_all : (p : Problem) (before x : Progress) (made granted : ℕ) → x ≡ open_many p made before → made ≤ granted → is_ended x.pending ≡ true → x ≡ open_many p granted before
made_all p before x made granted far low ended =
    let split : made + (granted - made) ≡ granted = omega arith in
    far
    ∙ sym (idle p (granted - made) (open_many p made before) (ap (λ (z : Progress). z.pending) (sym far) ∙ none_left x.pending ended))
    ∙ sym (many_sum p made (granted - made) before)
    ∙ ap (λ (k : ℕ). open_many p k before) split
  where
    none_left : (bs : List Branch) → is_ended bs ≡ true → bs ≡ []
    none_left [] is = refl
    none_left (b ∷ bs) is = absurd (false≢true is)

-- ---- the start

pub newest_alone : (items rest : List Branch) (b : Branch) → items ≡ rest ++ (b ∷ []) → rest ≡ [] → reverse items ≡ b ∷ []
newest_alone items rest b last none_there = newest items rest b last ∙ ap (λ (bs : List Branch). b ∷ reverse bs) none_there

pub nothing_kept : (items : List Branch) → reverse items ≡ [] → items ≡ []
nothing_kept [] none_there = refl
nothing_kept (b ∷ items) none_there = absurd (omega (arith, length-reverse (b ∷ items), ap length none_there))

-- the one branch that a change leaves
pub starts : (ls : List Lane) → length ls ≤ 20 → Kept (length ls) (start_over ls)
starts ls few =
    let below = standing_below ls in
    let lanes : ones (standing_set ls) ≤ length ls = ones-le (length ls) (standing_set ls) below in
    let power : 2 ^ suc (ones (standing_set ls)) ≤ 2 ^ 21 = pow_mono {i = suc (ones (standing_set ls))} {j = 21} (omega arith) in
    let inside : 0 + standing_set ls < 2 ^ length ls = omega arith in
    let depth : 0 + 1 + ones (standing_set ls) ≤ most_pending = omega arith in
    record {
      given = and_from _ _ (lt-ltb _ _ inside) refl;
      low = and_from _ _ (le-leb _ _ depth) refl;
      counted = omega arith;
    }
