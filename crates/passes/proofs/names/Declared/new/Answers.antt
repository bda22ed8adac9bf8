use Rattle.passes.specs.declared.names.Name.TheVariants.{Port, Body}
use Rattle.passes.proofs.Declaring.{none_held}
use Rattle.passes.proofs.names.Declared.new.Goals as goal

pub returns : goal.returns
returns c (Port n) = none_held 16 n
returns c (Body n) = none_held 32 n
