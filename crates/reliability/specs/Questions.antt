-- What is promised of the generic total over a network, and of the questions about a set of its lanes.
use Rattle.std.specs.Prelude.{◌≡◌, ℕ, Bool, cond, List, ◌++◌, length, drop, replicate, is_some, IfOk, Some, None, Decides, Option, Result, nat_lt}
use Rattle.network.specs.Answers.{first_of, told}
use Rattle.network.specs.Connected.{Connected, connects}
use Rattle.network.specs.Networks.{depots_of, lanes_of, most_of, parts_of}
use Rattle.network.specs.Sets.{chosen, given_refusal, set_refusal}
use Rattle.network.specs.declared.lanes.Lane.{Lane}
use Rattle.network.specs.declared.networks.Network.{Network}
use Rattle.network.specs.declared.refusals.Refusal.{Refusal}
use Rattle.network.specs.declared.refusals.Refusal.TheVariants.{ScratchTooShort}
use Rattle.semiring.specs.Semirings.{Ops}
use Rattle.semiring.specs.YesNo.{yes_no_ops}
use Rattle.reliability.specs.Reliability.{lanes_chance}
use Rattle.reliability.specs.Totals.{Tells, total}

-- as many places of scratch as there are lanes at most, and one
abbrev pub scratch_places : ℕ
scratch_places = 21

-- the lanes of the network that the set names
abbrev pub named : Network → ℕ → List Lane
named network s = chosen s (lanes_of network)

-- lanes that were not given, then a scratch that is too short
abbrev pub total_refusal : Network → ℕ → ℕ → Option Refusal
total_refusal network s places =
    first_of (given_refusal (lanes_of network) s) (cond (nat_lt places scratch_places) (Some ScratchTooShort) None)

-- the total of a set, by a test of connectedness
abbrev pub set_total : {V : Type 0} → Ops V → (List Lane → Bool) → Network → ℕ → V
set_total o test network s = total o (parts_of network) test (named network s)

abbrev pub cleared : {V : Type 0} → Ops V → List V → List V
cleared o before = replicate scratch_places o.zero ++ drop scratch_places before

-- The answer by the test that the code makes, and by every test that tells connectedness; and the scratch afterwards.
pub record Totalled {V : Type 0} (o : Ops V) (network : Network) (s : ℕ) (before : List V) (r : Result V Refusal) (after : List V) : Type 0 where
  pub answer : r ≡ told (total_refusal network s (length before)) (set_total o (connects (depots_of network)) network s)
  pub meant : (test : List Lane → Bool) → Tells (depots_of network) test → r ≡ told (total_refusal network s (length before)) (set_total o test network s)
  pub scratch : after ≡ cond (is_some (total_refusal network s (length before))) before (cleared o before)

abbrev pub question_refusal : Network → ℕ → Option Refusal
question_refusal network s = set_refusal (most_of network) (lanes_of network) s

-- the chance of a set, by a test of connectedness
abbrev pub chance_by : (List Lane → Bool) → Network → ℕ → ℕ
chance_by test network s = lanes_chance (parts_of network) (most_of network) test (named network s)

-- The chance of a set is its all-terminal reliability, whichever way connectedness is told.
pub record Chance (network : Network) (s : ℕ) (r : Result ℕ Refusal) : Type 0 where
  pub answer : r ≡ told (question_refusal network s) (chance_by (connects (depots_of network)) network s)
  pub meant : (test : List Lane → Bool) → Tells (depots_of network) test → r ≡ told (question_refusal network s) (chance_by test network s)

-- A set connects if every depot is reached from every other along its lanes, which its total in yes/no tells.
pub record Connects (network : Network) (s : ℕ) (r : Result Bool Refusal) : Type 0 where
  pub answer : r ≡ told (question_refusal network s) (set_total yes_no_ops (connects (depots_of network)) network s).yes
  pub meant : IfOk r (λ answer. Decides answer (Connected (depots_of network) (named network s)))
