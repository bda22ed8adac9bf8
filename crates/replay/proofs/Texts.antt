-- The texts of the worked cases are their scripts.
use Rattle.std.proofs.Common.{refl, arith}
use Rattle.std.specs.Fmt.{digits}
use Rattle.message.specs.Weights.{weight_literal}
use Rattle.rows.specs.Scripts.{ScriptOf}
use Rattle.replay.specs.Worked.{first_text, first_script, wrap_text, wrap_script, branch_text, branch_script, instr_text, instr_script, pair_text, pair_script, lone_text, lone_script, post_text, post_script, clock_text, clock_script, variable_text, variable_script, turns_text, turns_script}

pub first_text_is : ScriptOf weight_literal first_text first_script
unfolding digits
first_text_is = record { within = record { ports = tt; first = omega arith; others = omega arith }; written = refl }

pub wrap_text_is : ScriptOf weight_literal wrap_text wrap_script
unfolding digits
wrap_text_is = record { within = record { ports = tt; first = omega arith; others = tt }; written = refl }

pub branch_text_is : ScriptOf weight_literal branch_text branch_script
unfolding digits
branch_text_is = record { within = record { ports = tt; first = omega arith; others = omega arith }; written = refl }

pub instr_text_is : ScriptOf weight_literal instr_text instr_script
unfolding digits
instr_text_is = record { within = record { ports = tt; first = omega arith; others = omega arith }; written = refl }

pub pair_text_is : ScriptOf weight_literal pair_text pair_script
unfolding digits
pair_text_is = record { within = record { ports = omega arith; first = omega arith; others = omega arith }; written = refl }

pub lone_text_is : ScriptOf weight_literal lone_text lone_script
unfolding digits
lone_text_is = record { within = record { ports = omega arith; first = omega arith; others = tt }; written = refl }

pub post_text_is : ScriptOf weight_literal post_text post_script
unfolding digits
post_text_is = record { within = record { ports = omega arith; first = omega arith; others = tt }; written = refl }

pub clock_text_is : ScriptOf weight_literal clock_text clock_script
unfolding digits
clock_text_is = record { within = record { ports = tt; first = omega arith; others = tt }; written = refl }

pub variable_text_is : ScriptOf weight_literal variable_text variable_script
unfolding digits
variable_text_is = record { within = record { ports = omega arith; first = omega arith; others = tt }; written = refl }

pub turns_text_is : ScriptOf weight_literal turns_text turns_script
unfolding digits
turns_text_is = record { within = record { ports = tt; first = omega arith; others = tt }; written = refl }
