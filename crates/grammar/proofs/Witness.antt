-- Every stack stands for something that is spelled well, so that what it leads on from begins a script.
use Rattle.std.proofs.Common.{ℕ, List, [], ◌∷◌, refl, inl, arith}
use Rattle.std.specs.List.{AllByRecursion}
use Rattle.std.proofs.ByRecursion.{All-append}
use Rattle.message.specs.declared.kind.Sign.TheVariants.{Zero}
use Rattle.grammar.specs.declared.items.Role.{Role}
use Rattle.grammar.specs.declared.items.Role.TheVariants as role
use Rattle.grammar.specs.declared.items.Item.{Item}
use Rattle.grammar.specs.declared.items.Item.TheVariants.{Top, Bodies, Instrs, Events, Event, Action, Head, Number, Literal, Test, Shut}
use Rattle.tokens.specs.Tokens.{Run, Integer}
use Rattle.grammar.specs.Grammar as g
use Rattle.grammar.specs.Grammar.{Raw}
use Rattle.grammar.proofs.Values.{RawBody, Tree, Value, print, Values, prints}
use Rattle.grammar.proofs.Parts.{Fit}

abbrev nought : List ℕ
nought = 48 ∷ []

nought_integer : Integer nought
nought_integer = inl refl

nought_run : Run nought
nought_run = record { some = omega arith; bytes = (refl, tt) }

abbrev some_body : RawBody
some_body = record { number = nought; instrs = [] }

abbrev some_script : Raw
some_script = record { ports = []; first = some_body; others = [] }

abbrev some_tree : (r : Role) → Tree r
some_tree role.Top = some_script
some_tree role.Body = (some_body, [])
some_tree role.Instr = g.emit
some_tree role.Event = g.never
some_tree role.Action = g.add nought

abbrev some_value : (i : Item) → Value i
some_value Top = some_script
some_value Bodies = []
some_value Instrs = []
some_value Events = g.none
some_value (Event u) = g.never
some_value Action = g.add nought
some_value (Head r) = some_tree r
some_value (Number u) = nought
some_value (Literal u) = nought
some_value Test = Zero
some_value (Shut u) = tt

fit_tree : (r : Role) → AllByRecursion Fit (print (Head r) (some_tree r))
fit_tree role.Top = (tt, (nought_integer, (tt, tt)))
fit_tree role.Body = (tt, (nought_integer, (tt, tt)))
fit_tree role.Instr = (tt, (tt, tt))
fit_tree role.Event = (tt, (tt, tt))
fit_tree role.Action = (tt, (nought_integer, (tt, tt)))

fit_value : (i : Item) → AllByRecursion Fit (print i (some_value i))
fit_value Top = (tt, (tt, (nought_integer, (tt, tt))))
fit_value Bodies = tt
fit_value Instrs = (tt, tt)
fit_value Events = (tt, tt)
fit_value (Event u) = (tt, (tt, (tt, tt)))
fit_value Action = (tt, (tt, (nought_integer, (tt, tt))))
fit_value (Head r) = fit_tree r
fit_value (Number u) = (nought_integer, tt)
fit_value (Literal u) = (nought_run, tt)
fit_value Test = (tt, tt)
fit_value (Shut u) = (tt, tt)

pub some_values : (s : List Item) → Values s
some_values [] = tt
some_values (i ∷ s) = (some_value i, some_values s)

pub fit_values : (s : List Item) → AllByRecursion Fit (prints s (some_values s))
unfolding some_values
fit_values [] = tt
fit_values (i ∷ s) = All-append Fit (print i (some_value i)) _ (fit_value i) (fit_values s)
