-- The number and the place of each fault.
use Rattle.std.specs.Prelude.{ℕ}
use Rattle.tokens.specs.TextFaults.{text_number, text_place}
use Rattle.script.specs.declared.fault.Fault.{Fault}
use Rattle.script.specs.declared.fault.Fault.TheVariants.{Text, Form, Names, Message, Memory}
use Rattle.script.specs.declared.fault.FormFault.TheVariants.{Misfit, OutOfRange}
use Rattle.script.specs.declared.fault.NamesFault.TheVariants.{Misnamed, OverLimit}
use Rattle.script.specs.declared.fault.MessageFault.TheVariants.{InScript, InPost}
use Rattle.grammar.specs.declared.form.ParseFault.{ParseFault}
use Rattle.grammar.specs.declared.form.ParseFault.TheVariants as parse

-- want of memory is no refusal, and has no number
abbrev pub fault_number : Fault → ℕ
fault_number (Text f) = text_number f
fault_number (Form (Misfit at)) = 4
fault_number (Form (OutOfRange at)) = 5
fault_number (Names (Misnamed at)) = 6
fault_number (Names (OverLimit at)) = 7
fault_number (Message (InScript at f)) = 8
fault_number (Message (InPost f)) = 13
fault_number Memory = 0

abbrev pub fault_place : Fault → ℕ
fault_place (Text f) = text_place f
fault_place (Form (Misfit at)) = at
fault_place (Form (OutOfRange at)) = at
fault_place (Names (Misnamed at)) = at
fault_place (Names (OverLimit at)) = at
fault_place (Message (InScript at f)) = at
fault_place (Message (InPost f)) = 0
fault_place Memory = 0

-- what a text that is no script is refused with
abbrev pub as_fault : ParseFault → Fault
as_fault (parse.Misfit at) = Form (Misfit at)
as_fault parse.Memory = Memory
