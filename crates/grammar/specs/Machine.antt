-- Scripts read by a machine: a stack of what is expected of the tokens to come, and a step for each token.
use Rattle.std.specs.Prelude.{ℕ, List, [], ◌∷◌, ◌++◌, Some, None, Option}
use Rattle.std.specs.List.{find}
use Rattle.std.specs.Str.{bytes_eq}
use Rattle.message.specs.declared.kind.Sign.{Sign}
use Rattle.message.specs.declared.kind.Sign.TheVariants.{Neg, Zero, Pos}
use Rattle.grammar.specs.declared.words.PortKind.TheVariants as kind
use Rattle.grammar.specs.declared.words.Keyword.{Keyword}
use Rattle.grammar.specs.declared.words.Keyword.TheVariants.{Channel, Mailbox, Ivar, Mvar, Task, Sync, Spawn, Emit, Again, Never, Always, Send, Recv, Timeout, Nack, Choose, Wrap, Guard, WithNack, Set, Add}
use Rattle.grammar.specs.declared.words.Use.{Use}
use Rattle.grammar.specs.declared.words.Use.TheVariants as purpose
use Rattle.grammar.specs.declared.words.BracketUse.TheVariants.{Open, OpenSecond, Close, CloseTask, CloseSync, CloseGuard, CloseNack}
use Rattle.grammar.specs.declared.words.NumberUse.TheVariants.{NewPort, NewBody, SendPort, RecvPort, SpawnBody, NackBody, Delay, Addend}
use Rattle.grammar.specs.declared.words.LiteralUse.TheVariants.{InAlways, InSet}
use Rattle.grammar.specs.declared.items.Role.{Role}
use Rattle.grammar.specs.declared.items.Role.TheVariants as role
use Rattle.grammar.specs.declared.items.Item.{Item}
use Rattle.grammar.specs.declared.items.Item.TheVariants.{Top, Bodies, Instrs, Events, Event, Action, Head, Number, Literal, Test, Shut}
use Rattle.tokens.specs.Tokens.{Lexeme, opening, closing, atom}
use Rattle.grammar.specs.Grammar.{spelled, test_word}

-- the keywords of a role
abbrev pub begins : Role → List Keyword
begins role.Top = Channel ∷ Mailbox ∷ Ivar ∷ Mvar ∷ Task ∷ []
begins role.Body = Task ∷ []
begins role.Instr = Sync ∷ Spawn ∷ Emit ∷ Again ∷ []
begins role.Event = Never ∷ Always ∷ Send ∷ Recv ∷ Timeout ∷ Nack ∷ Choose ∷ Wrap ∷ Guard ∷ WithNack ∷ []
begins role.Action = Set ∷ Add ∷ []

-- the first that is spelled so
unfoldable pub keyword : Role → List ℕ → Option Keyword
keyword r w = find (λ k. bytes_eq w (spelled k)) (begins r)

abbrev pub signs : List Sign
signs = Neg ∷ Zero ∷ Pos ∷ []

unfoldable pub tested : List ℕ → Option Sign
tested w = find (λ t. bytes_eq w (test_word t)) signs

-- what follows a keyword
abbrev pub after : Keyword → List Item
after Channel = Number (NewPort kind.Channel) ∷ Shut Close ∷ Top ∷ []
after Mailbox = Number (NewPort kind.Mailbox) ∷ Shut Close ∷ Top ∷ []
after Ivar = Number (NewPort kind.Ivar) ∷ Shut Close ∷ Top ∷ []
after Mvar = Number (NewPort kind.Mvar) ∷ Shut Close ∷ Top ∷ []
after Task = Number NewBody ∷ Instrs ∷ Bodies ∷ []
after Sync = Event Open ∷ Shut CloseSync ∷ []
after Spawn = Number SpawnBody ∷ Shut Close ∷ []
after Emit = Shut Close ∷ []
after Again = Shut Close ∷ []
after Never = Shut Close ∷ []
after Always = Literal InAlways ∷ Shut Close ∷ []
after Send = Number SendPort ∷ Shut Close ∷ []
after Recv = Number RecvPort ∷ Shut Close ∷ []
after Timeout = Number Delay ∷ Shut Close ∷ []
after Nack = Shut Close ∷ []
after Choose = Events ∷ []
after Wrap = Event Open ∷ Action ∷ Shut Close ∷ []
after Guard = Test ∷ Event Open ∷ Event OpenSecond ∷ Shut CloseGuard ∷ []
after WithNack = Number NackBody ∷ Event Open ∷ Shut CloseNack ∷ []
after Set = Literal InSet ∷ Shut Close ∷ []
after Add = Number Addend ∷ Shut Close ∷ []

-- a token's use, and what is then expected
abbrev pub Read : Type 0
Read = Use × List Item

-- what a token is in place of an item; None where it does not fit
abbrev pub at_open : Item → Option Read
at_open Top = Some (purpose.Bracket Open, Head role.Top ∷ [])
at_open Bodies = Some (purpose.Bracket Open, Head role.Body ∷ [])
at_open Instrs = Some (purpose.Bracket Open, Head role.Instr ∷ Instrs ∷ [])
at_open Events = Some (purpose.Bracket Open, Head role.Event ∷ Events ∷ [])
at_open (Event u) = Some (purpose.Bracket u, Head role.Event ∷ [])
at_open Action = Some (purpose.Bracket Open, Head role.Action ∷ [])
at_open (Head r) = None
at_open (Number u) = None
at_open (Literal u) = None
at_open Test = None
at_open (Shut u) = None

abbrev pub at_close : Item → Option Read
at_close Instrs = Some (purpose.Bracket CloseTask, [])
at_close Events = Some (purpose.Bracket Close, [])
at_close (Shut u) = Some (purpose.Bracket u, [])
at_close Top = None
at_close Bodies = None
at_close (Event u) = None
at_close Action = None
at_close (Head r) = None
at_close (Number u) = None
at_close (Literal u) = None
at_close Test = None

abbrev pub as_head : Option Keyword → Option Read
as_head None = None
as_head (Some k) = Some (purpose.Head k, after k)

abbrev pub as_test : Option Sign → Option Read
as_test None = None
as_test (Some t) = Some (purpose.Test t, [])

abbrev pub at_atom : Item → List ℕ → Option Read
at_atom (Head r) w = as_head (keyword r w)
at_atom (Number u) w = Some (purpose.Number u, [])
at_atom (Literal u) w = Some (purpose.Literal u, [])
at_atom Test w = as_test (tested w)
at_atom Top w = None
at_atom Bodies w = None
at_atom Instrs w = None
at_atom Events w = None
at_atom (Event u) w = None
at_atom Action w = None
at_atom (Shut u) w = None

abbrev pub expand : Item → Lexeme → Option Read
expand i opening = at_open i
expand i closing = at_close i
expand i (atom w) = at_atom i w

abbrev pub onto : Option Read → List Item → Option Read
onto None s = None
onto (Some r) s = Some (r.0, r.1 ++ s)

-- a token's use, and the stack after it, by the stack's top
abbrev pub step : List Item → Lexeme → Option Read
step [] l = None
step (i ∷ s) l = onto (expand i l) s
