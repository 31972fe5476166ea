use Rattle.std.proofs.Common.{[], ◌∷◌, refl, ◌∙◌}
use lib.Count.{count_leading_zeros, ones}
use Rattle.sheet_examples.specs.Searches.{SearchesHold}
use Rattle.sheet_examples.proofs.reports.Goals as goal

-- one check over the list: the definitions compute to the expected reports
hold : SearchesHold
unfolding ones count_leading_zeros
hold = refl

pub returns : goal.returns
returns c =
    record { value = (λ i. c.seek_in.ensures i ∷ c.seek_in-2.ensures i ∷ c.seek_in-3.ensures i ∷ c.seek_in-4.ensures i ∷ c.seek_in-5.ensures i ∷ c.seek_in-6.ensures i ∷ []) ∙ hold; hold = hold }
