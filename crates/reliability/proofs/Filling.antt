-- The scratch, filled from the last lane back.
use Rattle.std.proofs.Common.{◌≡◌, ℕ, ◌+◌, ◌-◌, ◌<◌, ◌≤◌, ◌≢◌, List, [], ◌∷◌, ◌++◌, length, get_or, drop, set, replicate, sym, refl, ap, ◌∙◌, ⊎_elim, append_assoc, ap₂, subst, length-append, arith}
use Rattle.std.proofs.lemmas.List.{drop_at, drop-drop, drop-set-lt, get_or-set_other, get_or-set_same, length-replicate, length-set, replicate_more, set_at, drop_more}
use Rattle.std.proofs.lemmas.Bool.{cases_eq}
use Rattle.network.specs.declared.lanes.Lane.{Lane}
use Rattle.semiring.specs.Semirings.{Ops}
use Rattle.reliability.specs.Spread.{both, spread}

-- the places from i to the number of lanes are filled, and those beyond are as they were
pub record FilledSofar {V : Type 0} (o : Ops V) (S : ℕ) (ls : List Lane) (before : List V) (i : ℕ) (places : List V) : Type 0 where
  pub long : length places ≡ length before
  pub each : (k : ℕ) (d : V) → i ≤ k → k ≤ length ls → get_or places k d ≡ spread o S (drop k ls)
  pub beyond : drop (length ls + 1) places ≡ drop (length ls + 1) before

module _ {V : Type 0} (o : Ops V) (S : ℕ) (ls : List Lane) where
  -- one place more
  filled_more : (before : List V) (i : ℕ) (places : List V) → FilledSofar o S ls before (i + 1) places → i < length ls → length ls < length before → (v : V) → v ≡ spread o S (drop i ls) → FilledSofar o S ls before i (set places i v)
  filled_more before i places so within room v is =
      record {
        long = length-set places i v ∙ so.long;
        each = λ k d low high. ⊎_elim (here k d) (λ differ. other k d (omega arith) high) (cases_eq k i);
        beyond = drop-set-lt (length ls + 1) places i v (omega arith) ∙ so.beyond;
      }
    where
      here : (k : ℕ) (d : V) → k ≡ i → get_or (set places i v) k d ≡ spread o S (drop k ls)
      here k d same =
          ap (λ (j : ℕ). get_or (set places i v) j d) same
          ∙ get_or-set_same places i v d (omega (arith, so.long))
          ∙ is
          ∙ sym (ap (λ (j : ℕ). spread o S (drop j ls)) same)

      other : (k : ℕ) (d : V) → i < k → k ≤ length ls → get_or (set places i v) k d ≡ spread o S (drop k ls)
      other k d above high = let ne : k ≢ i = omega arith in get_or-set_other places i k v d ne ∙ so.each k d (omega arith) high

  -- the lanes that are still to come from the back, and what those after them add up to
  pub record FillingBack (before : List V) (left : List Lane) (count : ℕ) (rest : V) (places : List V) : Type 0 where
    pub from_start : count ≡ 0
    pub split : left ++ drop (length left) ls ≡ ls
    pub told : rest ≡ spread o S (drop (length left) ls)
    pub filled : FilledSofar o S ls before (length left) places

  pub back_more : (before : List V) (left later : List Lane) (count : ℕ) (rest : V) (places : List V) → FillingBack before left count rest places → length ls < length before → (l : Lane) → left ≡ later ++ (l ∷ []) → (i : ℕ) → i ≡ count + length later → (v : V) → v ≡ o.product (both o S l) rest → FillingBack before later count v (set places i v)
  back_more before left later count rest places so room l last i at v is =
      let n = length later in
      let longer : length left ≡ n + 1 = ap length last ∙ length-append later (l ∷ []) in
      let all : later ++ (l ∷ drop (n + 1) ls) ≡ ls = sym (append_assoc later (l ∷ []) (drop (n + 1) ls)) ∙ ap₂ (λ front (k : ℕ). front ++ drop k ls) (sym last) (sym longer) ∙ so.split in
      let tail : drop n ls ≡ l ∷ drop (n + 1) ls = sym (ap (drop n) all) ∙ drop_at later (l ∷ drop (n + 1) ls) n refl in
      let told : v ≡ spread o S (drop n ls) = is ∙ ap (o.product (both o S l)) (so.told ∙ ap (λ (k : ℕ). spread o S (drop k ls)) longer) ∙ sym (ap (spread o S) tail) in
      let here : i ≡ n = omega (arith, so.from_start) in
      let within : n < length ls = omega (arith, sym (ap length all) ∙ length-append later (l ∷ drop (n + 1) ls)) in
      record {
        from_start = so.from_start;
        split = ap (λ back. later ++ back) tail ∙ all;
        told = told;
        filled = subst (λ (k : ℕ). FilledSofar o S ls before n (set places k v)) (sym here) (filled_more before n places (subst (λ (k : ℕ). FilledSofar o S ls before k places) longer so.filled) within room v told);
      }

-- the first places cleared, one after the other
pub clear_more : {V : Type 0} (k : ℕ) (z : V) (before : List V) → k < length before → set (replicate k z ++ drop k before) k z ≡ replicate (k + 1) z ++ drop (k + 1) before
clear_more k z before within =
    let first = get_or before k z in
    ap (λ back. set (replicate k z ++ back) k z) (drop_more before k z within)
    ∙ set_at (replicate k z) first (drop (k + 1) before) z k (length-replicate k z)
    ∙ sym (append_assoc (replicate k z) (z ∷ []) (drop (k + 1) before))
    ∙ ap (λ front. front ++ drop (k + 1) before) (replicate_more k z)

-- what is the same from one place on is the same from each later one
pub beyond_all : {V : Type 0} (n m : ℕ) (xs ys : List V) → n ≤ m → drop n xs ≡ drop n ys → drop m xs ≡ drop m ys
beyond_all n m xs ys later same =
    let split : n + (m - n) ≡ m = omega arith in
    ap (λ (k : ℕ). drop k xs) (sym split)
    ∙ sym (drop-drop (m - n) n xs)
    ∙ ap (drop (m - n)) same
    ∙ drop-drop (m - n) n ys
    ∙ ap (λ (k : ℕ). drop k ys) split
