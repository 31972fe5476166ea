use Rattle.std.proofs.Common.{◌≡◌, [], ◌∷◌, None, refl, ◌∙◌}
use lib.Count.{ones}
use Rattle.network.specs.Sets.{set_refusal}
use Rattle.network.specs.declared.lanes.Mark.TheVariants.{Standing}
use Rattle.worked_examples.specs.Examples.{ExamplesHold, most, ring, three_depots}
use Rattle.worked_examples.proofs.Answering.{bound_told, chance_told, joining_told}
use Rattle.worked_examples.proofs.answers.Goals as goal

-- one check over the list: the definitions compute to the expected answers
hold : ExamplesHold
unfolding ones
hold = refl

-- the sets that are asked about have no more lanes than a set may have
all_three : set_refusal most (three_depots Standing) 7 ≡ None
unfolding ones
all_three = refl

all_four : set_refusal most ring 15 ≡ None
unfolding ones
all_four = refl

pub ask_chance-requires-3 : goal.ask_chance-requires-3
ask_chance-requires-3 c =
    let made = c.three_depots-three.ensures in (λ i. set_refusal (made.most i) (made.lanes i) 7) ∙ all_three

pub ask_chance-requires-4 : goal.ask_chance-requires-4
ask_chance-requires-4 c =
    let made = c.ring_of_four-ring.ensures in (λ i. set_refusal (made.most i) (made.lanes i) 15) ∙ all_four

pub returns : goal.returns
returns c =
    let three = c.three_depots-three.ensures in
    let none = chance_told _ 3 _ three 0 _ c.ask_chance.ensures in
    let path = chance_told _ 3 _ three 3 _ c.ask_chance-2.ensures in
    let all = chance_told _ 3 _ three 7 _ c.ask_chance-3.ensures in
    let ring = chance_told _ 4 _ c.ring_of_four-ring.ensures 15 _ c.ask_chance-4.ensures in
    let joining = joining_told _ 3 _ three _ c.joining_cost.ensures.value in
    let struck = joining_told _ 3 _ c.three_depots-struck.ensures _ c.joining_cost-2.ensures.value in
    let bound = bound_told _ 4 _ c.ring_of_four-ring.ensures 0 15 _ c.tell-depot.ensures in
    record { value = (λ i. none i ∷ path i ∷ all i ∷ ring i ∷ joining i ∷ struck i ∷ bound i ∷ []) ∙ hold; hold = hold }
