-- Yes and no, with "or" as sum and "and" as product. Both weights are yes.
use Rattle.std.specs.Prelude.{Bool, true, false, ◌&&◌, ◌||◌}
use Rattle.semiring.specs.Semirings.{Ops}
use Rattle.semiring.specs.declared.yes_no.YesNo.{YesNo}

abbrev pub yes_no : Bool → YesNo
yes_no b = record { yes = b }

abbrev pub yes_no_ops : Ops YesNo
yes_no_ops =
    record {
      zero = yes_no false;
      one = yes_no true;
      sum = λ a b. yes_no (a.yes || b.yes);
      product = λ a b. yes_no (a.yes && b.yes);
      running = λ S l. yes_no true;
      failing = λ S l. yes_no true;
    }
