-- What a checked network is, by its parts: scale, depots and lanes; and which one comes of a list of lanes.
use Rattle.std.specs.Prelude.{◌≡◌, ℕ, cond, List, [], ◌∷◌, ◌++◌, length, is_some, vec_items, Option, Result}
use Rattle.network.specs.Answers.{first_of, told}
use Rattle.network.specs.Lanes.{depots_refusal, offer_refusal, offers_refusal}
use Rattle.network.specs.Scales.{scale_refusal}
use Rattle.network.specs.declared.lanes.Lane.{Lane}
use Rattle.network.specs.declared.networks.Network.{Network}
use Rattle.network.specs.declared.refusals.Refusal.{Refusal}

abbrev pub lanes_of : Network → List Lane
lanes_of network = vec_items network.lanes

-- the number S of parts of the scale, and the greatest number K of lanes in a set
abbrev pub parts_of : Network → ℕ
parts_of network = network.scale.parts

abbrev pub most_of : Network → ℕ
most_of network = network.scale.most

abbrev pub depots_of : Network → ℕ
depots_of network = network.depots

-- scale, then depots, then lane by lane
abbrev pub network_refusal : ℕ → ℕ → ℕ → List Lane → Option Refusal
network_refusal S K depots ls = first_of (scale_refusal S K) (first_of (depots_refusal depots) (offers_refusal S depots 0 ls))

-- the network is made of just these parts
pub record Made (network : Network) (S K n : ℕ) (ls : List Lane) : Type 0 where
  pub scale : parts_of network ≡ S
  pub most : most_of network ≡ K
  pub depots : depots_of network ≡ n
  pub lanes : lanes_of network ≡ ls

abbrev pub add_refusal : Network → Lane → Option Refusal
add_refusal network l = offer_refusal (parts_of network) (depots_of network) (length (lanes_of network)) l

-- these lanes in place of the old ones, or a refusal that leaves the network as it was
pub record Changed (before : Network) (verdict : Option Refusal) (ls : List Lane) (r : Result (Unit {0}) Refusal) (after : Network) : Type 0 where
  pub answer : r ≡ told verdict tt
  pub scale : after.scale ≡ before.scale
  pub depots : depots_of after ≡ depots_of before
  pub lanes : lanes_of after ≡ cond (is_some verdict) (lanes_of before) ls

-- one lane more under the next number, or a refusal
abbrev pub Added : Network → Lane → Result (Unit {0}) Refusal → Network → Type 0
Added before l r after = Changed before (add_refusal before l) (lanes_of before ++ (l ∷ [])) r after
