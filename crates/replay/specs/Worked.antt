-- Worked cases, about the definitions themselves.
use Rattle.std.specs.Prelude.{◌≡◌, ℕ, ◌-◌, Bool, false, cond, not, List, [], ◌∷◌, ◌++◌, length, replicate, pos, negsuc, Some, None, Ok, Err, codes}
use Rattle.std.proofs.Common.{lit<}
use Rattle.message.specs.declared.kind.Sign.TheVariants.{Zero}
use Rattle.message.specs.declared.weight.Weight.{Weight}
use Rattle.message.specs.Literals.{Reads}
use Rattle.message.specs.Signs.{sign_of}
use Rattle.message.specs.Weights.{weight, weight_blank, weight_plus, weight_literal}
use Rattle.grammar.specs.declared.words.PortKind.TheVariants.{Channel, Mailbox, Ivar, Mvar}
use Rattle.grammar.specs.Grammar as g
use Rattle.rows.specs.Scripts.{Script, Event, ScriptOf}
use Rattle.script.specs.declared.fault.MessageFault.TheVariants.{InPost}
use Rattle.rules.specs.Messages.{Messages}
use Rattle.rules.specs.Delivered.{delivered}
use Rattle.rules.specs.Limits.{most_held}
use Rattle.rules.specs.States.{Setting}
use Rattle.rules.specs.Runs as runs
use Rattle.replay.specs.declared.fault.RunFault.TheVariants.{FewCells, ShortPage, NotMailbox, ClockBack, Quiet}
use Rattle.replay.specs.declared.fault.CallFault.TheVariants.{Message, Run}
use Rattle.replay.specs.Policies.{Policy, longest_idle}
use Rattle.replay.specs.Replays.{Call, post, clock, turn, look, Answer, wrote, sent_away, seen, Replay, begin_replay, Replays, trace_bytes}

abbrev pub weights : Messages Weight
weights = record { blank = weight_blank; plus = weight_plus; sign = λ x. sign_of x.value; literal = weight_literal }

abbrev pub with_weights : Script Weight → Setting Weight
with_weights s = record { messages = weights; kinds = delivered most_held; script = s }

-- lines with their ends
abbrev pub printed : List (List ℕ) → List ℕ
printed [] = []
printed (l ∷ ls) = l ++ (13 ∷ (10 ∷ printed ls))

abbrev pub a_turn : Call
a_turn = turn 576 2048

-- The text is the script; its replay of 1,000 turns with weights under longest idle writes just these lines; and they are a run.
pub record Prints (text : List ℕ) (s : Script Weight) (lines : List (List ℕ)) : Type 0 where
  pub text_is : ScriptOf weight_literal text s
  pub answers : List Answer
  pub end : Replay Weight (Unit {0})
  pub replays : Replays (with_weights s) longest_idle (begin_replay (with_weights s) tt) (replicate 1000 a_turn) answers end
  pub lines_are : trace_bytes (with_weights s) end.trace ≡ printed lines
  pub only : (as₁ : List Answer) (ρ : Replay Weight (Unit {0})) → Replays (with_weights s) longest_idle (begin_replay (with_weights s) tt) (replicate 1000 a_turn) as₁ ρ
      → trace_bytes (with_weights s) ρ.trace ≡ printed lines
  pub a_run : runs.Run (with_weights s) end.trace end.state

abbrev pub five : Weight
five = weight (pos 5) (lit< tt)

abbrev pub first_text : List ℕ
first_text = codes "(task 0 (sync (choose (always 5) (with-nack 1 (nack)))))(task 1 (sync (nack)))"

abbrev pub first_script : Script Weight
first_script = record {
  ports = [];
  first = record { number = 0; instrs = g.sync (g.choose (g.more (g.always five) (g.more (g.with_nack 1 g.nack) g.none))) ∷ [] };
  others = record { number = 1; instrs = g.sync g.nack ∷ [] } ∷ [];
}

abbrev pub first_lines : List (List ℕ)
first_lines =
    codes "seq,ms,kind,task,a,b,c,d,message"
    ∷ (codes "1,0,start,1,0,0,0,,"
    ∷ (codes "2,0,sync,1,1,2,,,"
    ∷ (codes "3,0,start,2,1,1,1,,"
    ∷ (codes "4,0,one,1,1,0,,,5"
    ∷ (codes "5,0,fire,2,1,,,,"
    ∷ (codes "6,0,sync,2,2,1,,,"
    ∷ (codes "7,0,end,1,,,,,"
    ∷ (codes "8,0,one,2,2,0,,,0"
    ∷ (codes "9,0,end,2,,,,," ∷ [])))))))))

-- the wraps act innermost first: 5, then 9, then 10
abbrev pub wrap_text : List ℕ
wrap_text = codes "(task 0 (sync (wrap (wrap (always 5) (set 9)) (add 1))) (emit))"

abbrev pub wrap_script : Script Weight
wrap_script = record {
  ports = [];
  first = record { number = 0; instrs = g.sync (g.wrap (g.wrap (g.always five) (g.set (weight (pos 9) (lit< tt)))) (g.add (pos 1))) ∷ (g.emit ∷ []) };
  others = [];
}

abbrev pub wrap_lines : List (List ℕ)
wrap_lines =
    codes "seq,ms,kind,task,a,b,c,d,message"
    ∷ (codes "1,0,start,1,0,0,0,,"
    ∷ (codes "2,0,sync,1,1,1,,,"
    ∷ (codes "3,0,one,1,1,0,,,5"
    ∷ (codes "4,0,emit,1,1,,,,10"
    ∷ (codes "5,0,end,1,,,,," ∷ [])))))

-- a with-nack's branch is the leaves in it: the first nack fires, the two around the settled leaf are void
abbrev pub branch_text : List ℕ
branch_text = codes "(task 0 (sync (choose (with-nack 1 (nack)) (with-nack 2 (with-nack 3 (always 5))))))(task 1)(task 2)(task 3)"

abbrev pub branch_script : Script Weight
branch_script = record {
  ports = [];
  first = record { number = 0; instrs = g.sync (g.choose (g.more (g.with_nack 1 g.nack) (g.more (g.with_nack 2 (g.with_nack 3 (g.always five))) g.none))) ∷ [] };
  others = record { number = 1; instrs = [] } ∷ (record { number = 2; instrs = [] } ∷ (record { number = 3; instrs = [] } ∷ []));
}

abbrev pub branch_lines : List (List ℕ)
branch_lines =
    codes "seq,ms,kind,task,a,b,c,d,message"
    ∷ (codes "1,0,start,1,0,0,0,,"
    ∷ (codes "2,0,sync,1,1,2,,,"
    ∷ (codes "3,0,start,2,1,1,1,,"
    ∷ (codes "4,0,start,3,2,1,1,,"
    ∷ (codes "5,0,start,4,3,1,1,,"
    ∷ (codes "6,0,one,1,1,1,,,5"
    ∷ (codes "7,0,fire,2,1,,,,"
    ∷ (codes "8,0,end,2,,,,,"
    ∷ (codes "9,0,end,3,,,,,"
    ∷ (codes "10,0,end,4,,,,,"
    ∷ (codes "11,0,end,1,,,,," ∷ [])))))))))))

-- emit, spawn and again; a guard is evaluated at each sync
abbrev pub instr_text : List ℕ
instr_text = codes "(task 0 (sync (guard zero (always -3) (never))) (emit) (spawn 1) (again))(task 1 (emit))"

abbrev pub instr_script : Script Weight
instr_script = record {
  ports = [];
  first = record { number = 0; instrs = g.sync (g.guard Zero (g.always (weight (negsuc 2) (lit< tt))) g.never) ∷ (g.emit ∷ (g.spawn 1 ∷ (g.again ∷ []))) };
  others = record { number = 1; instrs = g.emit ∷ [] } ∷ [];
}

abbrev pub instr_lines : List (List ℕ)
instr_lines =
    codes "seq,ms,kind,task,a,b,c,d,message"
    ∷ (codes "1,0,start,1,0,0,0,,"
    ∷ (codes "2,0,sync,1,1,1,,,"
    ∷ (codes "3,0,one,1,1,0,,,-3"
    ∷ (codes "4,0,emit,1,1,,,,-3"
    ∷ (codes "5,0,step,1,2,,,,-3"
    ∷ (codes "6,0,start,2,1,1,0,,"
    ∷ (codes "7,0,step,1,3,,,,-3"
    ∷ (codes "8,0,emit,2,0,,,,0"
    ∷ (codes "9,0,sync,1,2,0,,,"
    ∷ (codes "10,0,end,2,,,,," ∷ []))))))))))

-- a pair: the giver's register goes over, the giver's wrap acts on a blank, and both are stamped
abbrev pub pair_text : List ℕ
pair_text = codes "(channel 1)(task 0 (spawn 1) (sync (wrap (always 5) (add 2))) (sync (wrap (send 1) (set 9))) (emit))(task 1 (sync (recv 1)) (emit))"

abbrev pub pair_script : Script Weight
pair_script = record {
  ports = record { kind = Channel; number = 1 } ∷ [];
  first = record {
    number = 0;
    instrs =
        g.spawn 1
        ∷ (g.sync (g.wrap (g.always five) (g.add (pos 2)))
        ∷ (g.sync (g.wrap (g.send 1) (g.set (weight (pos 9) (lit< tt))))
        ∷ (g.emit ∷ [])));
  };
  others = record { number = 1; instrs = g.sync (g.recv 1) ∷ (g.emit ∷ []) } ∷ [];
}

abbrev pub pair_lines : List (List ℕ)
pair_lines =
    codes "seq,ms,kind,task,a,b,c,d,message"
    ∷ (codes "1,0,start,1,0,0,0,,"
    ∷ (codes "2,0,step,1,0,,,,0"
    ∷ (codes "3,0,start,2,1,1,0,,"
    ∷ (codes "4,0,sync,1,1,1,,,"
    ∷ (codes "5,0,sync,2,2,1,,,"
    ∷ (codes "6,0,one,1,1,0,,,5"
    ∷ (codes "7,0,sync,1,3,1,,,"
    ∷ (codes "8,0,pair,1,3,0,2,0,7"
    ∷ (codes "9,0,emit,1,3,,,,9"
    ∷ (codes "10,0,emit,2,1,,,,7"
    ∷ (codes "11,0,end,1,,,,,"
    ∷ (codes "12,0,end,2,,,,," ∷ []))))))))))))

-- a lone choose of both sides of a channel has no partner
abbrev pub lone_text : List ℕ
lone_text = codes "(channel 1)(task 0 (sync (choose (send 1) (recv 1))))"

abbrev pub lone_script : Script Weight
lone_script = record {
  ports = record { kind = Channel; number = 1 } ∷ [];
  first = record { number = 0; instrs = g.sync (g.choose (g.more (g.send 1) (g.more (g.recv 1) g.none))) ∷ [] };
  others = [];
}

-- The text is the script, and under the policy its replay of the calls answers so and writes these lines.
pub record Shows {P : Type 0} (k : Policy P) (p : P) (text : List ℕ) (s : Script Weight) (calls : List Call) (answers : List Answer) (lines : List (List ℕ)) : Type 0 where
  pub text_is : ScriptOf weight_literal text s
  pub end : Replay Weight P
  pub replays : Replays (with_weights s) k (begin_replay (with_weights s) p) calls answers end
  pub lines_are : trace_bytes (with_weights s) end.trace ≡ printed lines

-- too few cells, too short a page, a turn, and then no task is able
abbrev pub lone_calls : List Call
lone_calls = turn 575 2047 ∷ (turn 576 2047 ∷ (a_turn ∷ (look ∷ (a_turn ∷ []))))

abbrev pub lone_answers : List Answer
lone_answers = sent_away (Run FewCells) ∷ (sent_away (Run ShortPage) ∷ (wrote 19 ∷ (seen 0 None ∷ (sent_away (Run Quiet) ∷ []))))

abbrev pub lone_lines : List (List ℕ)
lone_lines =
    codes "seq,ms,kind,task,a,b,c,d,message"
    ∷ (codes "1,0,start,1,0,0,0,,"
    ∷ (codes "2,0,sync,1,1,2,,," ∷ []))

-- posts: the refusals in their order, two messages of which the older comes out first, and a clock that may not go back
abbrev pub post_text : List ℕ
post_text = codes "(mailbox 3)(task 0 (sync (recv 3)) (emit))"

abbrev pub post_script : Script Weight
post_script = record {
  ports = record { kind = Mailbox; number = 3 } ∷ [];
  first = record { number = 0; instrs = g.sync (g.recv 3) ∷ (g.emit ∷ []) };
  others = [];
}

abbrev pub post_calls : List Call
post_calls =
    post 575 2047 2 (codes "x")
    ∷ (post 576 2047 2 (codes "x")
    ∷ (post 576 2048 2 (codes "x")
    ∷ (post 576 2048 3 (codes "x")
    ∷ (post 576 2048 3 (codes "7")
    ∷ (post 576 2048 3 (codes "8")
    ∷ (clock 2048 5
    ∷ (clock 2048 4
    ∷ (a_turn ∷ (a_turn ∷ (a_turn ∷ (a_turn ∷ (a_turn ∷ []))))))))))))

abbrev pub post_answers : List Answer
post_answers =
    sent_away (Run FewCells)
    ∷ (sent_away (Run ShortPage)
    ∷ (sent_away (Run NotMailbox)
    ∷ (sent_away (Message (InPost (record { at = 0 })))
    ∷ (wrote 19
    ∷ (wrote 19
    ∷ (wrote 18
    ∷ (sent_away (Run ClockBack)
    ∷ (wrote 19 ∷ (wrote 19 ∷ (wrote 19 ∷ (wrote 16 ∷ (sent_away (Run Quiet) ∷ []))))))))))))

abbrev pub post_lines : List (List ℕ)
post_lines =
    codes "seq,ms,kind,task,a,b,c,d,message"
    ∷ (codes "1,0,start,1,0,0,0,,"
    ∷ (codes "2,0,post,0,3,,,,7"
    ∷ (codes "3,0,post,0,3,,,,8"
    ∷ (codes "4,5,clock,0,,,,,"
    ∷ (codes "5,5,sync,1,1,1,,,"
    ∷ (codes "6,5,one,1,1,0,,,7"
    ∷ (codes "7,5,emit,1,1,,,,7"
    ∷ (codes "8,5,end,1,,,,," ∷ []))))))))

-- a clock may stand but not go back, and is refused on a page that is too short
abbrev pub clock_text : List ℕ
clock_text = codes "(task 0)"

abbrev pub clock_script : Script Weight
clock_script = record { ports = []; first = record { number = 0; instrs = [] }; others = [] }

abbrev pub clock_calls : List Call
clock_calls = clock 2047 5 ∷ (clock 2048 5 ∷ (clock 2048 5 ∷ (clock 2048 4 ∷ (a_turn ∷ (a_turn ∷ [])))))

abbrev pub clock_answers : List Answer
clock_answers = sent_away (Run ShortPage) ∷ (wrote 18 ∷ (wrote 18 ∷ (sent_away (Run ClockBack) ∷ (wrote 16 ∷ (sent_away (Run Quiet) ∷ [])))))

abbrev pub clock_lines : List (List ℕ)
clock_lines =
    codes "seq,ms,kind,task,a,b,c,d,message"
    ∷ (codes "1,0,start,1,0,0,0,,"
    ∷ (codes "2,5,clock,0,,,,,"
    ∷ (codes "3,5,clock,0,,,,,"
    ∷ (codes "4,5,end,1,,,,," ∷ []))))

-- an IVar keeps its message and an MVar loses it; a give shows the message given and results in a blank; timeouts are due after the clock of their sync
abbrev pub variable_text : List ℕ
variable_text = codes "(ivar 0)(mvar 1)(task 0 (sync (always 5)) (sync (wrap (send 0) (add 1))) (emit) (sync (recv 0)) (sync (recv 0)) (sync (send 1)) (sync (recv 1)) (sync (choose (recv 1) (timeout 9) (timeout 5))))"

abbrev pub variable_script : Script Weight
variable_script = record {
  ports = record { kind = Ivar; number = 0 } ∷ (record { kind = Mvar; number = 1 } ∷ []);
  first = record {
    number = 0;
    instrs =
        g.sync (g.always five)
        ∷ (g.sync (g.wrap (g.send 0) (g.add (pos 1)))
        ∷ (g.emit
        ∷ (g.sync (g.recv 0)
        ∷ (g.sync (g.recv 0)
        ∷ (g.sync (g.send 1)
        ∷ (g.sync (g.recv 1)
        ∷ (g.sync (g.choose (g.more (g.recv 1) (g.more (g.timeout 9) (g.more (g.timeout 5) g.none)))) ∷ [])))))));
  };
  others = [];
}

abbrev pub variable_calls : List Call
variable_calls = clock 2048 1 ∷ (replicate 14 a_turn ++ (look ∷ (clock 2048 6 ∷ (look ∷ (clock 2048 10 ∷ (look ∷ (a_turn ∷ (a_turn ∷ []))))))))

abbrev pub variable_answers : List Answer
variable_answers = wrote 18 ∷ (replicate 7 (wrote 19) ++ (replicate 7 (wrote 20) ++ (seen 0 (Some 6) ∷ (wrote 19 ∷ (seen 1 (Some 10) ∷ (wrote 20 ∷ (seen 1 None ∷ (wrote 21 ∷ (wrote 18 ∷ [])))))))))

abbrev pub variable_lines : List (List ℕ)
variable_lines =
    codes "seq,ms,kind,task,a,b,c,d,message"
    ∷ (codes "1,0,start,1,0,0,0,,"
    ∷ (codes "2,1,clock,0,,,,,"
    ∷ (codes "3,1,sync,1,1,1,,,"
    ∷ (codes "4,1,one,1,1,0,,,5"
    ∷ (codes "5,1,sync,1,2,1,,,"
    ∷ (codes "6,1,one,1,2,0,,,5"
    ∷ (codes "7,1,emit,1,2,,,,1"
    ∷ (codes "8,1,sync,1,3,1,,,"
    ∷ (codes "9,1,one,1,3,0,,,5"
    ∷ (codes "10,1,sync,1,4,1,,,"
    ∷ (codes "11,1,one,1,4,0,,,5"
    ∷ (codes "12,1,sync,1,5,1,,,"
    ∷ (codes "13,1,one,1,5,0,,,5"
    ∷ (codes "14,1,sync,1,6,1,,,"
    ∷ (codes "15,1,one,1,6,0,,,5"
    ∷ (codes "16,1,sync,1,7,3,,,"
    ∷ (codes "17,6,clock,0,,,,,"
    ∷ (codes "18,10,clock,0,,,,,"
    ∷ (codes "19,10,one,1,7,1,,,0"
    ∷ (codes "20,10,end,1,,,,," ∷ []))))))))))))))))))))

-- a policy that names the first and the last leaf by turns: each naming finds the state that the one before it left
abbrev pub by_turns : Policy Bool
by_turns = record {
  name_task = λ p cs. record { place = 0; next = p };
  name_leaf = λ p is. record { place = cond p (length is - 1) 0; next = not p };
}

-- the same of tasks and leaves alike
abbrev pub all_by_turns : Policy Bool
all_by_turns = record {
  name_task = λ p cs. record { place = cond p (length cs - 1) 0; next = not p };
  name_leaf = by_turns.name_leaf;
}

abbrev pub turns_text : List ℕ
turns_text = codes "(task 0 (sync (choose (always 1) (always 5))) (sync (choose (always 1) (always 5))))"

abbrev pub one_or_five : Event Weight
one_or_five = g.choose (g.more (g.always (weight (pos 1) (lit< tt))) (g.more (g.always five) g.none))

abbrev pub turns_script : Script Weight
turns_script = record {
  ports = [];
  first = record { number = 0; instrs = g.sync one_or_five ∷ (g.sync one_or_five ∷ []) };
  others = [];
}

abbrev pub turns_lines : List (List ℕ)
turns_lines =
    codes "seq,ms,kind,task,a,b,c,d,message"
    ∷ (codes "1,0,start,1,0,0,0,,"
    ∷ (codes "2,0,sync,1,1,2,,,"
    ∷ (codes "3,0,one,1,1,0,,,1"
    ∷ (codes "4,0,sync,1,2,2,,,"
    ∷ (codes "5,0,one,1,2,1,,,5"
    ∷ (codes "6,0,end,1,,,,," ∷ []))))))

pub record Worked : Type 0 where
  pub first : Prints first_text first_script first_lines
  pub wraps : Prints wrap_text wrap_script wrap_lines
  pub branches : Prints branch_text branch_script branch_lines
  pub instructions : Prints instr_text instr_script instr_lines
  pub pairs : Prints pair_text pair_script pair_lines
  pub lone : Shows {P = Unit {0}} longest_idle tt lone_text lone_script lone_calls lone_answers lone_lines
  pub posts : Shows {P = Unit {0}} longest_idle tt post_text post_script post_calls post_answers post_lines
  pub clocks : Shows {P = Unit {0}} longest_idle tt clock_text clock_script clock_calls clock_answers clock_lines
  pub variables : Shows {P = Unit {0}} longest_idle tt variable_text variable_script variable_calls variable_answers variable_lines
  pub turns : Shows by_turns false turns_text turns_script (replicate 5 a_turn) (replicate 4 (wrote 19) ++ (wrote 16 ∷ [])) turns_lines
  pub all_turns : Shows all_by_turns false turns_text turns_script (replicate 5 a_turn) (replicate 4 (wrote 19) ++ (wrote 16 ∷ [])) turns_lines
  pub largest : Reads weight_literal (codes "2147483647") (Ok (weight (pos 2147483647) (lit< tt)))
  pub too_large : Reads weight_literal (codes "2147483648") (Err (record { at = 9 }))
  pub minus_zero : Reads weight_literal (codes "-0") (Err (record { at = 1 }))
