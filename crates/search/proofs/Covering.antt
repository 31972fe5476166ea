-- The search forgets no plan: each is under a pending branch, or the best set so far is before it or is that plan.
use Rattle.std.proofs.Common.{◌≡◌, ℕ, zero, suc, ◌+◌, ◌-◌, ◌^◌, ◌<◌, ◌≤◌, Bool, true, false, cond, ◌&&◌, eqb, ltb, ◌⊎◌, List, [], ◌∷◌, length, IfSome, Some, None, Option, sym, refl, ap, ◌∙◌, subst, inl, inr, ⊎_elim, le_trans, le_refl, arith, pow_mono}
use lib.Count.{ones}
use Rattle.std.proofs.lemmas.Bool.{cases_eq, cases_lt, eqb-false, eqb-true, false≢true, true≢false, leb-true, leb-false, ltb-true, ltb-false, or_cases, or_parts}
use Rattle.network.specs.Sets.{bit, set_cost, standing_set, total_cost}
use Rattle.network.specs.declared.lanes.Lane.{Lane}
use Rattle.network.proofs.Masks.{bit_low, bit_none, bit_sum, same_bits, within_le}
use Rattle.network.proofs.Sets.{standing_below}
use Rattle.reliability.specs.Joining.{Part, none, keep, skip}
use Rattle.bounds.specs.Meaning.{Meaning, Possible}
use Rattle.bounds.specs.Questions.{Checked, Lawful}
use Rattle.bounds.specs.Within.{chosen_part}
use Rattle.search.specs.Opening.{Problem, Progress, best_after, branches_after, chance_of, cost_of, dropped, highest, open_from, open_many, open_one, question, reaches, start, too_dear, with_lane, without}
use Rattle.search.proofs.Tops.{Top, bit_other, bit_own, ones_within, split_bits, top_of}
use Rattle.search.specs.declared.branches.Branch.{Branch}
use Rattle.search.specs.Plans.{Answers, Before, Plan}

-- ---- costs and counts of sets within sets

part_cost : {rs ls : List Lane} → Part rs ls → total_cost rs ≤ total_cost ls
part_cost none = le_refl 0
part_cost (keep p) = omega (arith, part_cost p)
part_cost (skip p) = omega (arith, part_cost p)

pub cost_within : (ls : List Lane) (s t : ℕ) → ((i : ℕ) → bit s i ≤ bit t i) → set_cost s ls ≤ set_cost t ls
cost_within ls s t within = part_cost (chosen_part s t ls within)

-- ---- what holds between openings

-- picked and undecided lanes are apart and standing
pub record Sound (p : Problem) (b : Branch) : Type 0 where
  pub apart : (i : ℕ) → bit b.picked i + bit b.undecided i ≤ 1
  pub picked_stand : (i : ℕ) → bit b.picked i ≤ bit (standing_set p.lanes) i
  pub undecided_stand : (i : ℕ) → bit b.undecided i ≤ bit (standing_set p.lanes) i

-- the set has all picked lanes and otherwise only undecided ones
pub record Under (b : Branch) (s : ℕ) : Type 0 where
  pub has_picked : (i : ℕ) → bit b.picked i ≤ bit s i
  pub within : (i : ℕ) → bit s i ≤ bit b.picked i + bit b.undecided i

-- the branches, the newest first, have rising set numbers, all from a least one on
abbrev pub Rising : Problem → ℕ → List Branch → Type 0
Rising p low [] = Unit {0}
Rising p low (b ∷ bs) = (low ≤ b.picked) × Sound p b × Rising p (suc (b.picked + b.undecided)) bs

abbrev pub Pending : List Branch → ℕ → Type 0
Pending [] s = ⊥
Pending (b ∷ bs) s = Under b s ⊎ Pending bs s

-- set numbers still to come are above the best set's
abbrev pub above : Option ℕ → ℕ
above None = 0
above (Some t) = suc t

-- the best set is this one, or before it
abbrev pub Covers : Problem → Option ℕ → ℕ → Type 0
Covers p None s = ⊥
Covers p (Some t) s = (t ≡ s) ⊎ Before p t s

pub record Holds (p : Problem) (x : Progress) : Type 0 where
  pub rising : Rising p (above x.best) x.pending
  pub covered : (s : ℕ) → Plan p s → Pending x.pending s ⊎ Covers p x.best s
  pub planned : IfSome x.best (Plan p)

rising_lower : (p : Problem) (low less : ℕ) (bs : List Branch) → less ≤ low → Rising p low bs → Rising p less bs
rising_lower p low less [] h r = tt
rising_lower p low less (b ∷ bs) h r = (le_trans h r.0, r.1, r.2)

-- a set under a branch lies within its numbers
under_low : (b : Branch) (s : ℕ) → Under b s → b.picked ≤ s
under_low b s under = within_le b.picked s under.has_picked

-- with nothing undecided there is one set under a branch
under_one : (b : Branch) (s : ℕ) → b.undecided ≡ 0 → Under b s → s ≡ b.picked
under_one b s empty under =
    same_bits s b.picked (λ i. omega (arith, under.has_picked i, under.within i, ap (λ (u : ℕ). bit u i) empty ∙ bit_none i))

module _ (p : Problem) (means : Meaning p.tell) (known : (b : Branch) → Checked (question p b)) where
  small : (s : ℕ) → ((i : ℕ) → bit s i ≤ bit (standing_set p.lanes) i) → s < 2 ^ 20
  small s stand =
      let few = (known (record { picked = 0; undecided = 0 })).few in
      let power : 2 ^ length p.lanes ≤ 2 ^ 20 = pow_mono {i = length p.lanes} {j = 20} few in
      omega (arith, within_le s (standing_set p.lanes) stand, standing_below p.lanes)

  -- ---- a branch that is dropped has no plan under it that the best set does not cover

  dear_covered : (best : Option ℕ) (b : Branch) (s : ℕ) → above best ≤ b.picked → too_dear p.lanes best b.picked ≡ true → Under b s → Covers p best s
  dear_covered None b s low dear under = absurd (false≢true dear)
  dear_covered (Some t) b s low dear under =
      let cheap = leb-true (cost_of p t) (cost_of p b.picked) dear in
      let more = cost_within p.lanes b.picked s under.has_picked in
      let number = under_low b s under in
      inr (⊎_elim (λ less. inl less) (λ same. inr (omega arith, omega arith)) (cases_lt (cost_of p t) (cost_of p s)))

  many_no_plan : (b : Branch) (s : ℕ) → Sound p b → p.most < ones b.picked → Under b s → Plan p s → ⊥
  many_no_plan b s sound many under plan =
      omega (arith, ones_within 20 b.picked s (small b.picked sound.picked_stand) under.has_picked, plan.standing.few)

  bound_no_plan : (b : Branch) (s : ℕ) → Sound p b → ones b.picked ≤ p.most → p.tell (question p b) < p.least → Under b s → Plan p s → ⊥
  bound_no_plan b s sound few below under plan =
      let law : Lawful (question p b) = record { apart = sound.apart; picked_stand = sound.picked_stand; undecided_stand = sound.undecided_stand; few_picked = few } in
      let possible : Possible (question p b) s = record { has_picked = under.has_picked; within = under.within; few = plan.standing.few } in
      omega (arith, means.covers (question p b) (known b) law s possible, leb-true p.least (chance_of p s) plan.reached)

  dropped_covered : (best : Option ℕ) (b : Branch) (s : ℕ) → above best ≤ b.picked → Sound p b → dropped p best b ≡ true → Under b s → Plan p s → Covers p best s
  dropped_covered best b s low sound drops under plan =
      ⊎_elim
      (λ dear. dear_covered best b s low dear under)
      (λ other.
      absurd
      (⊎_elim
      (λ many. many_no_plan b s sound (ltb-true p.most (ones b.picked) many) under plan)
      (λ below.
      ⊎_elim
      (λ many. many_no_plan b s sound many under plan)
      (λ few. bound_no_plan b s sound few (ltb-true _ p.least below) under plan)
      (cases_lt p.most (ones b.picked)))
      (or_cases (ltb p.most (ones b.picked)) _ other)))
      (or_cases (too_dear p.lanes best b.picked) _ drops)

  -- ---- a branch that is split

  module _ (b : Branch) (sound : Sound p b) (some : 0 < b.undecided) where
    pub top : Top b.undecided
    top =
        let low = small b.undecided sound.undecided_stand in
        let power : 2 ^ 20 ≤ 2 ^ 32 = pow_mono {i = 20} {j = 32} (omega arith) in
        top_of b.undecided some (omega arith)

    picked_free : bit b.picked (highest b.undecided) ≡ 0
    picked_free = omega (arith, sound.apart (highest b.undecided), split_bits b.undecided top (highest b.undecided), bit_own (highest b.undecided))

    with_apart : (i : ℕ) → bit b.picked i + bit (2 ^ highest b.undecided) i ≤ 1
    with_apart i = omega (arith, sound.apart i, split_bits b.undecided top i)

    with_bits : (i : ℕ) → bit (with_lane b).picked i ≡ bit b.picked i + bit (2 ^ highest b.undecided) i
    with_bits i = bit_sum b.picked (2 ^ highest b.undecided) with_apart i

    sound_without : Sound p (without b)
    sound_without =
        record {
          apart = λ i. omega (arith, sound.apart i, split_bits b.undecided top i);
          picked_stand = sound.picked_stand;
          undecided_stand = λ i. omega (arith, sound.undecided_stand i, split_bits b.undecided top i);
        }

    sound_with : Sound p (with_lane b)
    sound_with =
        record {
          apart = λ i. omega (arith, with_bits i, sound.apart i, split_bits b.undecided top i);
          picked_stand = λ i. omega (arith, with_bits i, with_apart i, sound.picked_stand i, sound.undecided_stand i, split_bits b.undecided top i);
          undecided_stand = λ i. omega (arith, sound.undecided_stand i, split_bits b.undecided top i);
        }

    -- a set under the branch has the lane or not
    under_split : (s : ℕ) → Under b s → Under (without b) s ⊎ Under (with_lane b) s
    under_split s under =
        ⊎_elim
        (λ lacks. inl (record { has_picked = under.has_picked; within = λ i. by_lane i lacks }))
        (λ has. inr (record { has_picked = λ i. has_lane i has; within = λ i. omega (arith, with_bits i, under.within i, split_bits b.undecided top i) }))
        (cases_eq (bit s (highest b.undecided)) 0)
      where
        by_lane : (i : ℕ) → bit s (highest b.undecided) ≡ 0 → bit s i ≤ bit b.picked i + bit (b.undecided - 2 ^ highest b.undecided) i
        by_lane i lacks =
            ⊎_elim
            (λ same. omega (arith, ap (λ (j : ℕ). bit s j) same))
            (λ differ. omega (arith, under.within i, split_bits b.undecided top i, bit_other (highest b.undecided) i differ))
            (cases_eq i (highest b.undecided))

        has_lane : (i : ℕ) → (bit s (highest b.undecided) ≡ 0 → ⊥) → bit (with_lane b).picked i ≤ bit s i
        has_lane i has =
            ⊎_elim
            (λ same.
            let here = ap (λ (j : ℕ). bit s j) same in
            omega (arith, bit_low (with_lane b).picked i, bit_low s (highest b.undecided)))
            (λ differ. omega (arith, with_bits i, under.has_picked i, bit_other (highest b.undecided) i differ))
            (cases_eq i (highest b.undecided))

    split_rising : (low : ℕ) (rest : List Branch) → low ≤ b.picked → Rising p (suc (b.picked + b.undecided)) rest → Rising p low (without b ∷ (with_lane b ∷ rest))
    split_rising low rest from rising =
        let same : suc (b.picked + b.undecided) ≡ suc ((with_lane b).picked + (with_lane b).undecided) = omega (arith, top.lane) in
        (from, sound_without, (omega (arith, top.lane, top.last), sound_with, subst (λ (n : ℕ). Rising p n rest) same rising))

  -- ---- one opening

  module _ (b : Branch) (rest : List Branch) (best : Option ℕ) (made : ℕ) (holds : Holds p (record { pending = b ∷ rest; best = best; openings = made })) where
    from : above best ≤ b.picked
    from = holds.rising.0

    sound : Sound p b
    sound = holds.rising.1

    later : Rising p (above best) rest
    later = rising_lower p (suc (b.picked + b.undecided)) (above best) rest (omega (arith, from)) holds.rising.2

    -- a plan that is pending is under this branch or a later one
    plan_here : (Q : ℕ → Type 0) (s : ℕ) → Plan p s → (Under b s → Q s) → (Pending rest s → Q s) → (Covers p best s → Q s) → Q s
    plan_here Q s plan here after best-covers =
        ⊎_elim (⊎_elim here after) best-covers (holds.covered s plan)

    drop_holds : dropped p best b ≡ true → Holds p (record { pending = rest; best = best; openings = made + 1 })
    drop_holds drops =
        record {
          rising = later;
          covered = λ s plan.
              plan_here (λ t. Pending rest t ⊎ Covers p best t) s plan (λ under. inr (dropped_covered best b s from sound drops under plan)) inl inr;
          planned = holds.planned;
        }

    module _ (kept : dropped p best b ≡ false) where
      few_picked : ones b.picked ≤ p.most
      few_picked = ltb-false p.most (ones b.picked) (or_parts _ _ (or_parts (too_dear p.lanes best b.picked) _ kept).1).0

      -- the picked lanes are cheaper than a best set
      cheaper : (t : ℕ) → too_dear p.lanes (Some t) b.picked ≡ false → cost_of p b.picked < cost_of p t
      cheaper t not-dear = leb-false (cost_of p t) (cost_of p b.picked) not-dear

      new_best_covers : (old : Option ℕ) → too_dear p.lanes old b.picked ≡ false → (s : ℕ) → Covers p old s → Covers p (Some b.picked) s
      new_best_covers None not-dear s covers = absurd covers
      new_best_covers (Some t) not-dear s covers =
          let less = cheaper t not-dear in
          inr (inl (⊎_elim (λ same. omega (arith, ap (cost_of p) same)) (⊎_elim (λ dearer. omega arith) (λ tie. omega (arith, tie.0))) covers))

      reached_holds : b.undecided ≡ 0 → reaches p b.picked ≡ true → Holds p (record { pending = rest; best = Some b.picked; openings = made + 1 })
      reached_holds empty reached =
          let same : suc (b.picked + b.undecided) ≡ suc b.picked = omega arith in
          record {
            rising = subst (λ (n : ℕ). Rising p n rest) same holds.rising.2;
            covered = λ s plan.
                plan_here (λ t. Pending rest t ⊎ Covers p (Some b.picked) t) s plan
                (λ under. inr (inl (sym (under_one b s empty under)))) inl
                (λ covers. inr (new_best_covers best (or_parts (too_dear p.lanes best b.picked) _ kept).0 s covers));
            planned = record { standing = record { stand = sound.picked_stand; few = few_picked }; reached = reached };
          }

      missed_holds : b.undecided ≡ 0 → reaches p b.picked ≡ false → Holds p (record { pending = rest; best = best; openings = made + 1 })
      missed_holds empty missed =
          record {
            rising = later;
            covered = λ s plan.
                plan_here (λ t. Pending rest t ⊎ Covers p best t) s plan
                (λ under. absurd (true≢false (sym plan.reached ∙ ap (reaches p) (under_one b s empty under) ∙ missed))) inl inr;
            planned = holds.planned;
          }

      split_holds : 0 < b.undecided → Holds p (record { pending = without b ∷ (with_lane b ∷ rest); best = best; openings = made + 1 })
      split_holds some =
          record {
            rising = split_rising b sound some (above best) rest from holds.rising.2;
            covered = λ s plan.
                plan_here (λ t. Pending (without b ∷ (with_lane b ∷ rest)) t ⊎ Covers p best t) s plan
                (λ under. inl (⊎_elim (λ lacks. inl lacks) (λ has. inr (inl has)) (under_split b sound some s under)))
                (λ after. inl (inr (inr after))) inr;
            planned = holds.planned;
          }

      leaf_holds : (goal : Bool) → reaches p b.picked ≡ goal → b.undecided ≡ 0 → Holds p (record { pending = rest; best = cond goal (Some b.picked) best; openings = made + 1 })
      leaf_holds true is empty = reached_holds empty is
      leaf_holds false is empty = missed_holds empty is

      kept_holds : (leaf : Bool) → eqb b.undecided 0 ≡ leaf → Holds p (record { pending = cond leaf rest (without b ∷ (with_lane b ∷ rest)); best = cond (leaf && reaches p b.picked) (Some b.picked) best; openings = made + 1 })
      kept_holds true is = leaf_holds (reaches p b.picked) refl (eqb-true b.undecided 0 is)
      kept_holds false is = let differ = eqb-false b.undecided 0 is in split_holds (omega arith)

    opened_holds : (drop : Bool) → dropped p best b ≡ drop → Holds p (record { pending = cond drop rest (branches_after b rest); best = cond drop best (best_after p b best); openings = made + 1 })
    opened_holds true is = drop_holds is
    opened_holds false is = kept_holds is (eqb b.undecided 0) refl

  step_from : (bs : List Branch) (best : Option ℕ) (made : ℕ) → Holds p (record { pending = bs; best = best; openings = made }) → Holds p (open_from p bs best made)
  step_from [] best made holds = holds
  step_from (b ∷ rest) best made holds = opened_holds b rest best made holds (dropped p best b) refl

  pub step : (x : Progress) → Holds p x → Holds p (open_one p x)
  step x holds = step_from x.pending x.best x.openings holds

  steps : (n : ℕ) (x : Progress) → Holds p x → Holds p (open_many p n x)
  steps zero x holds = holds
  steps (suc n) x holds = steps n (open_one p x) (step x holds)

  pub begins : Holds p (start p)
  begins =
      record {
        rising = (omega arith, record { apart = λ i. omega (arith, bit_none i, bit_low (standing_set p.lanes) i); picked_stand = λ i. omega (arith, bit_none i); undecided_stand = λ i. le_refl _ }, tt);
        covered = λ s plan. inl (inl (record { has_picked = λ i. omega (arith, bit_none i); within = λ i. omega (arith, bit_none i, plan.standing.stand i) }));
        planned = tt;
      }

  -- once none is pending, the best set is the cheapest plan, and without one there is no plan
  ended : (bs : List Branch) (best : Option ℕ) (made : ℕ) → Holds p (record { pending = bs; best = best; openings = made }) → bs ≡ [] → Answers p best
  ended bs None made holds none_left = λ s plan. ⊎_elim (λ pending. subst (λ xs. Pending xs s) none_left pending) (λ covers. covers) (holds.covered s plan)
  ended bs (Some t) made holds none_left =
      record {
        plan = holds.planned;
        first = λ s plan differ.
            ⊎_elim (λ pending. absurd (subst (λ xs. Pending xs s) none_left pending)) (⊎_elim (λ same. absurd (differ (sym same))) (λ before. before)) (holds.covered s plan);
      }

  -- ---- the answer of the search, after any number of openings that leaves none pending
  pub answers : (n : ℕ) → (open_many p n (start p)).pending ≡ [] → Answers p (open_many p n (start p)).best
  answers n none_left = ended _ (open_many p n (start p)).best (open_many p n (start p)).openings (steps n (start p) begins) none_left
