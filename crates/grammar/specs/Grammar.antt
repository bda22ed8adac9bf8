-- The grammar: what a script is, and the tokens in which each part is written, each with its use.
use Rattle.std.specs.Prelude.{◌≡◌, ℕ, List, [], ◌∷◌, ◌++◌, map, codes}
use Rattle.std.specs.List.{AllByRecursion}
use Rattle.message.specs.declared.kind.Sign.{Sign}
use Rattle.message.specs.declared.kind.Sign.TheVariants.{Neg, Zero, Pos}
use Rattle.grammar.specs.declared.words.PortKind.{PortKind}
use Rattle.grammar.specs.declared.words.PortKind.TheVariants as kind
use Rattle.grammar.specs.declared.words.Keyword.{Keyword}
use Rattle.grammar.specs.declared.words.Keyword.TheVariants.{Channel, Mailbox, Ivar, Mvar, Task, Sync, Spawn, Emit, Again, Never, Always, Send, Recv, Timeout, Nack, Choose, Wrap, Guard, WithNack, Set, Add}
use Rattle.grammar.specs.declared.words.Use.{Use}
use Rattle.grammar.specs.declared.words.Use.TheVariants.{Bracket, Head, Test, Number, Literal}
use Rattle.grammar.specs.declared.words.BracketUse.{BracketUse}
use Rattle.grammar.specs.declared.words.BracketUse.TheVariants.{Open, OpenSecond, Close, CloseTask, CloseSync, CloseGuard, CloseNack}
use Rattle.grammar.specs.declared.words.NumberUse.{NumberUse}
use Rattle.grammar.specs.declared.words.NumberUse.TheVariants.{NewPort, NewBody, SendPort, RecvPort, SpawnBody, NackBody, Delay, Addend}
use Rattle.grammar.specs.declared.words.LiteralUse.{LiteralUse}
use Rattle.grammar.specs.declared.words.LiteralUse.TheVariants.{InAlways, InSet}
use Rattle.tokens.specs.Tokens.{Lexeme, opening, closing, atom, Run, Integer}

-- Scripts, over what their numbers (N), added numbers (K) and literals (L) are.

pub data Action (K L : Type 0) : Type 0 where
  set : L → Action K L
  add : K → Action K L

mutual
  pub data Event (N K L : Type 0) : Type 0 where
    never nack : Event N K L
    always : L → Event N K L
    send recv timeout : N → Event N K L
    choose : Events N K L → Event N K L
    wrap : Event N K L → Action K L → Event N K L
    guard : Sign → Event N K L → Event N K L → Event N K L
    with_nack : N → Event N K L → Event N K L

  pub data Events (N K L : Type 0) : Type 0 where
    none : Events N K L
    more : Event N K L → Events N K L → Events N K L

pub data Instr (N K L : Type 0) : Type 0 where
  sync : Event N K L → Instr N K L
  spawn : N → Instr N K L
  emit again : Instr N K L

pub record Port (N : Type 0) : Type 0 where
  pub kind : PortKind
  pub number : N

pub record Body (N K L : Type 0) : Type 0 where
  pub number : N
  pub instrs : List (Instr N K L)

-- ports, and at least one body
pub record Script (N K L : Type 0) : Type 0 where
  pub ports : List (Port N)
  pub first : Body N K L
  pub others : List (Body N K L)

-- A token of a script, with what it is there for.
pub record Part : Type 0 where
  pub purpose : Use
  pub lexeme : Lexeme

abbrev pub part : Use → Lexeme → Part
part u l = record { purpose = u; lexeme = l }

abbrev pub spelled : Keyword → List ℕ
spelled Channel = codes "channel"
spelled Mailbox = codes "mailbox"
spelled Ivar = codes "ivar"
spelled Mvar = codes "mvar"
spelled Task = codes "task"
spelled Sync = codes "sync"
spelled Spawn = codes "spawn"
spelled Emit = codes "emit"
spelled Again = codes "again"
spelled Never = codes "never"
spelled Always = codes "always"
spelled Send = codes "send"
spelled Recv = codes "recv"
spelled Timeout = codes "timeout"
spelled Nack = codes "nack"
spelled Choose = codes "choose"
spelled Wrap = codes "wrap"
spelled Guard = codes "guard"
spelled WithNack = codes "with-nack"
spelled Set = codes "set"
spelled Add = codes "add"

abbrev pub test_word : Sign → List ℕ
test_word Neg = codes "neg"
test_word Zero = codes "zero"
test_word Pos = codes "pos"

abbrev pub port_word : PortKind → Keyword
port_word kind.Channel = Channel
port_word kind.Mailbox = Mailbox
port_word kind.Ivar = Ivar
port_word kind.Mvar = Mvar

-- how numbers and literals are spelled
pub record Spelling (N K L : Type 0) : Type 0 where
  pub number : N → List ℕ
  pub addend : K → List ℕ
  pub literal : L → List ℕ

-- a form: a bracket, a keyword, what follows it, and a bracket
abbrev pub form : BracketUse → Keyword → List Part → BracketUse → List Part
form o k inside c = part (Bracket o) opening ∷ part (Head k) (atom (spelled k)) ∷ (inside ++ (part (Bracket c) closing ∷ []))

abbrev pub number : NumberUse → List ℕ → Part
number u bs = part (Number u) (atom bs)

abbrev pub literal : LiteralUse → List ℕ → Part
literal u bs = part (Literal u) (atom bs)

abbrev pub each : {A : Type 0} → (A → List Part) → List A → List Part
each f [] = []
each f (x ∷ xs) = f x ++ each f xs

abbrev pub action : {N K L : Type 0} → Spelling N K L → Action K L → List Part
action s (set l) = form Open Set (literal InSet (s.literal l) ∷ []) Close
action s (add k) = form Open Add (number Addend (s.addend k) ∷ []) Close

-- an event, by the use of its opening bracket
abbrev mutual
  pub event : {N K L : Type 0} → Spelling N K L → BracketUse → Event N K L → List Part
  event s o never = form o Never [] Close
  event s o nack = form o Nack [] Close
  event s o (always l) = form o Always (literal InAlways (s.literal l) ∷ []) Close
  event s o (send p) = form o Send (number SendPort (s.number p) ∷ []) Close
  event s o (recv p) = form o Recv (number RecvPort (s.number p) ∷ []) Close
  event s o (timeout d) = form o Timeout (number Delay (s.number d) ∷ []) Close
  event s o (choose es) = form o Choose (events s es) Close
  event s o (wrap e a) = form o Wrap (event s Open e ++ action s a) Close
  event s o (guard t e f) = form o Guard (part (Test t) (atom (test_word t)) ∷ (event s Open e ++ event s OpenSecond f)) CloseGuard
  event s o (with_nack b e) = form o WithNack (number NackBody (s.number b) ∷ event s Open e) CloseNack

  pub events : {N K L : Type 0} → Spelling N K L → Events N K L → List Part
  events s none = []
  events s (more e es) = event s Open e ++ events s es

abbrev pub instr : {N K L : Type 0} → Spelling N K L → Instr N K L → List Part
instr s (sync e) = form Open Sync (event s Open e) CloseSync
instr s (spawn b) = form Open Spawn (number SpawnBody (s.number b) ∷ []) Close
instr s emit = form Open Emit [] Close
instr s again = form Open Again [] Close

abbrev pub port : {N K L : Type 0} → Spelling N K L → Port N → List Part
port s p = form Open (port_word p.kind) (number (NewPort p.kind) (s.number p.number) ∷ []) Close

abbrev pub body : {N K L : Type 0} → Spelling N K L → Body N K L → List Part
body s b = form Open Task (number NewBody (s.number b.number) ∷ each (instr s) b.instrs) CloseTask

abbrev pub script : {N K L : Type 0} → Spelling N K L → Script N K L → List Part
script s x = each (port s) x.ports ++ (body s x.first ++ each (body s) x.others)

-- Scripts as they are written: numbers and literals are the bytes of their tokens.

abbrev pub Raw : Type 0
Raw = Script (List ℕ) (List ℕ) (List ℕ)

abbrev pub as_written : Spelling (List ℕ) (List ℕ) (List ℕ)
as_written = record { number = λ bs. bs; addend = λ bs. bs; literal = λ bs. bs }

abbrev pub raw_parts : Raw → List Part
raw_parts x = script as_written x

-- a number is an integer, of any size, and a literal any token but a bracket
abbrev pub SpelledAs : Use → List ℕ → Type 0
SpelledAs (Number u) bs = Integer bs
SpelledAs (Literal u) bs = Run bs
SpelledAs (Bracket u) bs = Unit {0}
SpelledAs (Head k) bs = Unit {0}
SpelledAs (Test t) bs = Unit {0}

abbrev pub Spelled : Use → Lexeme → Type 0
Spelled u opening = Unit {0}
Spelled u closing = Unit {0}
Spelled u (atom bs) = SpelledAs u bs

pub record WellSpelled (x : Raw) : Type 0 where
  pub parts : AllByRecursion (λ p. Spelled p.purpose p.lexeme) (raw_parts x)

abbrev pub part_lexemes : List Part → List Lexeme
part_lexemes ps = map (λ p. p.lexeme) ps

-- the tokens are those of a script
pub record IsScript (ls : List Lexeme) : Type 0 where
  pub raw : Raw
  pub spelled_well : WellSpelled raw
  pub written : part_lexemes (raw_parts raw) ≡ ls

-- some tokens make them a script
pub record Viable (ls : List Lexeme) : Type 0 where
  pub rest : List Lexeme
  pub whole : IsScript (ls ++ rest)
