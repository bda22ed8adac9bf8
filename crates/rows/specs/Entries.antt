-- What each part of a script adds to its rows.
use Rattle.std.specs.Prelude.{◌≡◌, ℕ, ◌<◌, ◌≤◌, ◌⊎◌, List, ℤ, Some, None, decimal, Option}
use Rattle.std.specs.Int.Signed.{mag}
use Rattle.std.specs.Fmt.{signed_decimal}
use Rattle.grammar.specs.declared.words.Keyword.{Keyword}
use Rattle.grammar.specs.declared.words.Keyword.TheVariants as word
use Rattle.grammar.specs.declared.words.Use.{Use}
use Rattle.grammar.specs.declared.words.Use.TheVariants.{Bracket, Head, Test, Number, Literal}
use Rattle.grammar.specs.declared.words.BracketUse.{BracketUse}
use Rattle.grammar.specs.declared.words.BracketUse.TheVariants.{Open, OpenSecond, Close, CloseTask, CloseSync, CloseGuard, CloseNack}
use Rattle.grammar.specs.declared.words.NumberUse.{NumberUse}
use Rattle.grammar.specs.declared.words.NumberUse.TheVariants.{NewPort, NewBody, SendPort, RecvPort, SpawnBody, NackBody, Delay, Addend}
use Rattle.grammar.specs.declared.words.LiteralUse.{LiteralUse}
use Rattle.grammar.specs.declared.words.LiteralUse.TheVariants.{InAlways, InSet}
use Rattle.passes.specs.Ranges.{last_port, last_body, longest_delay}
use Rattle.rows.specs.declared.row.Instr.TheVariants as instr
use Rattle.rows.specs.declared.row.Node.TheVariants as node
use Rattle.rows.specs.declared.entry.Entry.{Entry}
use Rattle.rows.specs.declared.entry.Entry.TheVariants.{Port, Body, Sync, Instr, Node}

abbrev pub bracket_entry : {M : Type 0} → BracketUse → Option (Entry M)
bracket_entry Open = None
bracket_entry OpenSecond = Some (Node node.Else)
bracket_entry Close = None
bracket_entry CloseTask = Some (Instr instr.End)
bracket_entry CloseSync = Some (Node node.EndSync)
bracket_entry CloseGuard = Some (Node node.EndGuard)
bracket_entry CloseNack = Some (Node node.EndNack)

abbrev pub head_entry : {M : Type 0} → Keyword → Option (Entry M)
head_entry word.Channel = None
head_entry word.Mailbox = None
head_entry word.Ivar = None
head_entry word.Mvar = None
head_entry word.Task = None
head_entry word.Sync = Some Sync
head_entry word.Spawn = None
head_entry word.Emit = Some (Instr instr.Emit)
head_entry word.Again = Some (Instr instr.Again)
head_entry word.Never = None
head_entry word.Always = None
head_entry word.Send = None
head_entry word.Recv = None
head_entry word.Timeout = None
head_entry word.Nack = Some (Node node.Nack)
head_entry word.Choose = None
head_entry word.Wrap = Some (Node node.Wrap)
head_entry word.Guard = None
head_entry word.WithNack = None
head_entry word.Set = None
head_entry word.Add = None

abbrev pub literal_entry : {M : Type 0} → LiteralUse → M → Entry M
literal_entry InAlways m = Node (node.Always m)
literal_entry InSet m = Node (node.Set m)

-- the bytes write a number up to max, and the entry is the number's
abbrev pub NumberUptoEntry : {M : Type 0} → ℕ → (ℕ → Entry M) → List ℕ → Entry M → Type 0
NumberUptoEntry max entry bs e = (n : ℕ) × (n ≤ max) × (bs ≡ decimal n) × (e ≡ entry n)

-- the bytes write a number in the range of its use, and the entry is the number's
abbrev pub NumberEntry : {M : Type 0} → NumberUse → List ℕ → Entry M → Type 0
NumberEntry (NewPort k) bs e = NumberUptoEntry last_port (Port k) bs e
NumberEntry NewBody bs e = NumberUptoEntry last_body Body bs e
NumberEntry SendPort bs e = NumberUptoEntry last_port (λ p. Node (node.Send p)) bs e
NumberEntry RecvPort bs e = NumberUptoEntry last_port (λ p. Node (node.Recv p)) bs e
NumberEntry SpawnBody bs e = NumberUptoEntry last_body (λ b. Instr (instr.Spawn b)) bs e
NumberEntry NackBody bs e = NumberUptoEntry last_body (λ b. Node (node.WithNack b)) bs e
NumberEntry Delay bs e = NumberUptoEntry longest_delay (λ d. Node (node.Timeout d)) bs e
NumberEntry Addend bs e = (z : ℤ) × (mag z < 2147483648) × (bs ≡ signed_decimal z) × (e ≡ Node (node.Add z))

abbrev pub LiteralEntry : {M : Type 0} → (M → List ℕ) → LiteralUse → List ℕ → Entry M → Type 0
LiteralEntry {M} literal u bs e = (m : M) × (bs ≡ literal m) × (e ≡ literal_entry u m)

-- what a token of these bytes adds, by its use; a bracket or a word may add nothing
abbrev pub EntryOf : {M : Type 0} → (M → List ℕ) → Use → List ℕ → Option (Entry M) → Type 0
EntryOf literal (Bracket u) bs o = o ≡ bracket_entry u
EntryOf literal (Head k) bs o = o ≡ head_entry k
EntryOf literal (Test t) bs o = o ≡ Some (Node (node.Guard t))
EntryOf {M} literal (Number u) bs o = (e : Entry M) × NumberEntry u bs e × (o ≡ Some e)
EntryOf {M} literal (Literal u) bs o = (e : Entry M) × LiteralEntry literal u bs e × (o ≡ Some e)

-- what is read: the entry, or none where there is none

abbrev pub ReadAs : {X : Type 0} → (X → Type 0) → Option X → Type 0
ReadAs P (Some x) = P x
ReadAs {X} P None = (x : X) → P x → ⊥

abbrev pub NumberEntryRead : {M : Type 0} → NumberUse → List ℕ → Option (Entry M) → Type 0
NumberEntryRead u bs r = ReadAs (NumberEntry u bs) r

abbrev pub LiteralEntryRead : {M : Type 0} → (M → List ℕ) → LiteralUse → List ℕ → Option (Entry M) → Type 0
LiteralEntryRead literal u bs r = ReadAs (LiteralEntry literal u bs) r

-- what a token adds, or nothing where its number or its literal cannot be read
abbrev pub EntryRead : {M : Type 0} → (M → List ℕ) → Use → List ℕ → Option (Entry M) → Type 0
EntryRead {M} literal u bs r = EntryOf literal u bs r ⊎ ((r ≡ None) × ((o : Option (Entry M)) → EntryOf literal u bs o → ⊥))
