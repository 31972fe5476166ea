-- Totals in the subject's words: any test that tells connectedness gives the same total, and the total in yes/no tells connectedness.
use Rattle.std.proofs.Common.{◌≡◌, ℕ, ◌≤◌, Bool, true, false, cond, ◌||◌, List, [], ◌∷◌, Decides, sym, refl, ap, ◌∙◌, inl, inr, ⊎_elim, arith}
use Rattle.std.proofs.lemmas.Bool.{and_parts, or_cases, or_left}
use Rattle.std.proofs.lemmas.Bool.Decides.{same_from_decides}
use Rattle.network.specs.Connected.{Adjacent, Connected, EndsWithin, connects}
use Rattle.network.specs.Lanes.{all_sound, sound}
use Rattle.network.specs.declared.lanes.Lane.{Lane}
use Rattle.network.proofs.Connectedness.{connected_mono, connects_tells}
use Rattle.network.proofs.Sets.{fit_lane}
use Rattle.semiring.specs.Semirings.{Laws, Ops}
use Rattle.semiring.specs.YesNo.{yes_no, yes_no_ops}
use Rattle.semiring.specs.ValuesLemmas.{yes_no_laws}
use Rattle.reliability.specs.Joining.{Part, none, keep, skip}
use Rattle.reliability.specs.Totals.{Tells, total}
use Rattle.reliability.proofs.Splitting.{total_same, total_split}

-- ---- parts of a list of lanes

pub ends_part : (depots : ℕ) {rs ls : List Lane} → Part rs ls → EndsWithin depots ls → EndsWithin depots rs
ends_part depots none ends = tt
ends_part depots (keep p) ends = (ends.0, ends.1, ends_part depots p ends.2)
ends_part depots (skip p) ends = ends_part depots p ends.2

pub ends_wider : (n : ℕ) {m : ℕ} → n ≤ m → (ls : List Lane) → EndsWithin n ls → EndsWithin m ls
ends_wider n wider [] ends = tt
ends_wider n wider (l ∷ ls) ends = (omega arith, omega arith, ends_wider n wider ls ends.2)

adjacent_part : {rs ls : List Lane} → Part rs ls → (a b : ℕ) → Adjacent rs a b → Adjacent ls a b
adjacent_part none a b h = h
adjacent_part (keep p) a b h = ⊎_elim inl (λ later. inr (adjacent_part p a b later)) h
adjacent_part (skip p) a b h = inr (adjacent_part p a b h)

pub whole : (ls : List Lane) → Part ls ls
whole [] = none
whole (l ∷ ls) = keep (whole ls)

pub sound_ends : (S depots : ℕ) (ls : List Lane) → all_sound S depots ls ≡ true → EndsWithin depots ls
sound_ends S depots [] fit = tt
sound_ends S depots (l ∷ ls) fit =
    let parts = and_parts (sound S depots l) (all_sound S depots ls) fit in
    let lane = fit_lane S depots l parts.0 in
    (lane.left, lane.right, sound_ends S depots ls parts.1)

module _ (depots : ℕ) (few : depots ≤ 10) where
  pub connects_is_told : Tells depots (connects depots)
  connects_is_told ls ends = connects_tells depots ls few ends

  -- the total does not depend on how connectedness is told
  pub total_told : {V : Type 0} (o : Ops V) → Laws o → (S : ℕ) (test : List Lane → Bool) (ls : List Lane) → EndsWithin depots ls → Tells depots test → total o S (connects depots) ls ≡ total o S test ls
  total_told o laws S test ls ends tells =
      total_same o laws S (connects depots) test ls
      (λ rs p. let within = ends_part depots p ends in same_from_decides _ _ (connects_is_told rs within) (tells rs within))

  -- whatever a part of the lanes connects, all of them connect
  pub connects_more : (ls : List Lane) → EndsWithin depots ls → (rs : List Lane) → Part rs ls → connects depots rs ≡ true → connects depots ls ≡ true
  connects_more ls ends rs p yes-rs =
      (connects_is_told ls ends).1 (connected_mono depots rs ls (adjacent_part p) ((connects_is_told rs (ends_part depots p ends)).0 yes-rs))

-- ---- yes/no

module _ (S : ℕ) where
  yes_split : (test : List Lane → Bool) (l : Lane) (ls : List Lane) → (total yes_no_ops S test (l ∷ ls)).yes ≡ ((total yes_no_ops S (λ rs. test (l ∷ rs)) ls).yes || (total yes_no_ops S test ls).yes)
  yes_split test l ls = ap (λ v. v.yes) (total_split yes_no_ops yes_no_laws S test l ls)

  yes_none : (test : List Lane → Bool) → (total yes_no_ops S test []).yes ≡ test []
  yes_none test = at (test [])
    where
      at : (b : Bool) → ((cond b (yes_no true) (yes_no false)).yes || false) ≡ b
      at true = refl
      at false = refl

  -- where the total is yes, some part of the lanes passes the test
  some_yes : (test : List Lane → Bool) (ls : List Lane) → (total yes_no_ops S test ls).yes ≡ true → (rs : List Lane) × Part rs ls × (test rs ≡ true)
  some_yes test [] h = ([], none, sym (yes_none test) ∙ h)
  some_yes test (l ∷ ls) h =
      ⊎_elim
      (λ runs. let found = some_yes (λ rs. test (l ∷ rs)) ls runs in (l ∷ found.0, keep found.1, found.2))
      (λ fails. let found = some_yes test ls fails in (found.0, skip found.1, found.2))
      (or_cases _ _ (sym (yes_split test l ls) ∙ h))

  whole_yes : (test : List Lane → Bool) (ls : List Lane) → test ls ≡ true → (total yes_no_ops S test ls).yes ≡ true
  whole_yes test [] h = yes_none test ∙ h
  whole_yes test (l ∷ ls) h = yes_split test l ls ∙ or_left _ _ (whole_yes (λ rs. test (l ∷ rs)) ls h)

  -- the total in yes/no tells whether the lanes connect all depots
  pub yes_connected : (depots : ℕ) → depots ≤ 10 → (ls : List Lane) → EndsWithin depots ls → Decides (total yes_no_ops S (connects depots) ls).yes (Connected depots ls)
  yes_connected depots few ls ends = (
    λ h. let found = some_yes (connects depots) ls h in (connects_tells depots ls few ends).0 (connects_more depots few ls ends found.0 found.1 found.2),
    λ c. whole_yes (connects depots) ls ((connects_tells depots ls few ends).1 c),
  )
