-- What the code tells of a network is what the definitions tell of its parts.
use Rattle.std.proofs.Common.{◌≡◌, ℕ, List, Option, ap, ◌∙◌}
use Rattle.network.specs.Connected.{connects}
use Rattle.network.specs.Networks.{Made, depots_of, lanes_of, parts_of}
use Rattle.network.specs.Sets.{chosen, standing_lanes}
use Rattle.network.specs.declared.lanes.Lane.{Lane}
use Rattle.network.specs.declared.networks.Network.{Network}
use Rattle.reliability.specs.Joining.{joining_cost}
use Rattle.reliability.specs.Questions.{chance_by}
use Rattle.reliability.specs.Reliability.{lanes_chance}
use Rattle.bounds.specs.Numbers.{depot_tells}
use Rattle.bounds.specs.Questions.{asked_of_network}
use Rattle.worked_examples.specs.Examples.{answer, chance_of, depot_bound_of, joining_cost_of, most, parts}
use Rattle.worked_examples.specs.declared.Answer.{Answer}
use Rattle.worked_examples.specs.declared.Answer.TheVariants.{Chance, JoiningCost, Bound}

module _ (network : Network) (n : ℕ) (ls : List Lane) (made : Made network parts most n ls) where
  pub chance_told : (s : ℕ) (told : Answer) → told ≡ Chance (chance_by (connects (depots_of network)) network s) → told ≡ answer (chance_of n ls s)
  chance_told s told is =
      is ∙ ap Chance (λ i. lanes_chance (made.scale i) (made.most i) (connects (made.depots i)) (chosen s (made.lanes i)))

  pub joining_told : (told : Option ℕ) → told ≡ joining_cost (parts_of network) (depots_of network) (standing_lanes (lanes_of network)) → JoiningCost told ≡ answer (joining_cost_of n ls)
  joining_told told is =
      ap JoiningCost (is ∙ (λ i. joining_cost (made.scale i) (made.depots i) (standing_lanes (made.lanes i))))

  pub bound_told : (picked undecided told : ℕ) → told ≡ depot_tells (asked_of_network network picked undecided) → Bound told ≡ answer (depot_bound_of n ls picked undecided)
  bound_told picked undecided told is =
      ap Bound
      (is ∙ (λ i. depot_tells (record { parts = made.scale i; most = made.most i; depots = made.depots i; lanes = made.lanes i; picked = picked; undecided = undecided })))
