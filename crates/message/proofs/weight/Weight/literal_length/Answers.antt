use Rattle.std.proofs.Common.{arith}
use Rattle.std.proofs.lemmas.Fmt.{length-decimal-le_succ}
use Rattle.message.proofs.weight.Weight.literal_length.Goals as goal

pub overflow_add-result : goal.overflow_add-result
overflow_add-result c = omega (arith, c.count_digits-digits.ensures, length-decimal-le_succ c.unsigned_abs.result (omega arith))
