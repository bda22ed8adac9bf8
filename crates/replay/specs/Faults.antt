-- The number of each refusal of a call on a run.
use Rattle.std.specs.Prelude.{ℕ}
use Rattle.script.specs.declared.fault.MessageFault.TheVariants.{InScript, InPost}
use Rattle.replay.specs.declared.fault.RunFault.{RunFault}
use Rattle.replay.specs.declared.fault.RunFault.TheVariants.{FewCells, ShortPage, LongTrace, NotMailbox, NoRoom, ClockBack, Quiet}
use Rattle.replay.specs.declared.fault.CallFault.{CallFault}
use Rattle.replay.specs.declared.fault.CallFault.TheVariants.{Message, Run}

abbrev pub run_number : RunFault → ℕ
run_number FewCells = 9
run_number ShortPage = 10
run_number LongTrace = 11
run_number NotMailbox = 12
run_number NoRoom = 14
run_number ClockBack = 15
run_number Quiet = 16

abbrev pub call_number : CallFault → ℕ
call_number (Message (InScript at f)) = 8
call_number (Message (InPost f)) = 13
call_number (Run f) = run_number f
