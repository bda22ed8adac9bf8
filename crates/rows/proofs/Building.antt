-- The rows while they are built from the parts of a script.
use Rattle.std.proofs.Common.{◌≡◌, ℕ, ◌+◌, ◌<◌, List, [], ◌∷◌, ◌++◌, length, get_or, take, sym, ap, ◌∙◌, subst, inl, inr}
use Rattle.std.proofs.lemmas.List.{take_more, map-append}
use Rattle.std.specs.List.{AllByRecursion}
use Rattle.std.proofs.ByRecursion.{All-from_get_or}
use Rattle.tokens.specs.Places.{Nowhere}
use Rattle.grammar.specs.Grammar as g
use Rattle.grammar.specs.Grammar.{Part}
use Rattle.grammar.specs.declared.part.Part as code
use Rattle.grammar.specs.Parts.{told, parts_of, bytes}
use Rattle.passes.specs.Ranges.{Ranged, IsOutOfRange}
use Rattle.passes.specs.Messages.{MessageFor, NoMessage}
use Rattle.rows.specs.declared.row.Rows.{Rows}
use Rattle.rows.specs.Scripts.{spelling}
use Rattle.rows.specs.Tables.{Table, table, blank_table, PartAdded}
use Rattle.rows.specs.Build.{Built, Builds}
use Rattle.rows.proofs.Held.{holds}
use Rattle.rows.proofs.Adding.{Adds, adds_append, part_adds, none, script_adds, after_script}
use Rattle.rows.proofs.Holding.{script_held}
use Rattle.rows.proofs.Valued.{Known, script_of}
use Rattle.rows.proofs.Once.{entry_from, adds_known, adds_once}

-- a part with nothing against it
abbrev Clear : {M : Type 0} → (M → List ℕ) → Part → Type 0
Clear literal p = ((Ranged p.purpose (bytes p) → ⊥) → ⊥) × ((MessageFor literal p.purpose (bytes p) → ⊥) → ⊥)

all_clear : {M : Type 0} (literal : M → List ℕ) (ps : List Part) → Nowhere (IsOutOfRange ps) → Nowhere (NoMessage literal ps) → AllByRecursion (Clear literal) ps
all_clear literal ps in_range messages = All-from_get_or (Clear literal) ps _ (λ i h. (in_range i, messages i))

-- the parts so far have made the table, where nothing is against them
abbrev pub SoFar : {M : Type 0} → (M → List ℕ) → List Part → Table M → Type 0
SoFar literal ps t = AllByRecursion (Clear literal) ps → Adds literal ps blank_table t

-- a part that is clear adds its entry
added : {M : Type 0} (literal : M → List ℕ) (p : Part) (t u : Table M) → Clear literal p → PartAdded literal p.purpose (bytes p) t u → Adds literal (p ∷ []) t u
added {M} literal p t u clear (inl (o, of, is)) = let P : Table M → Type 0 = λ v. Adds literal (p ∷ []) t v in subst P (sym is) (part_adds literal p o of (none literal))
added literal p t u clear (inr (no_entry, is)) =
    absurd (clear.0 (λ ranged. clear.1 (λ message. let e = entry_from literal p.purpose (bytes p) ranged message in no_entry e.0 e.1)))

all_front : {X : Type 0} (P : X → Type 0) (xs ys : List X) → AllByRecursion P (xs ++ ys) → AllByRecursion P xs × AllByRecursion P ys
all_front P [] ys h = (tt, h)
all_front P (x ∷ xs) ys h = let k = all_front P xs ys h.1 in ((h.0, k.0), k.1)

pub so_far_more : {M : Type 0} (literal : M → List ℕ) (ps qs : List Part) (p : Part) (t v : Table M) → qs ≡ ps ++ (p ∷ [])
    → PartAdded literal p.purpose (bytes p) t v → SoFar literal ps t → SoFar literal qs v
so_far_more literal ps qs p t v e a h =
    rw e (λ clear. let both = all_front (Clear literal) ps (p ∷ []) clear in adds_append literal (h both.0) (added literal p t v both.1.0 a))

pub told_more : (ps : List code.Part) (i : ℕ) (d : code.Part) → i < length ps → parts_of (take (i + 1) ps) ≡ parts_of (take i ps) ++ (told (get_or ps i d) ∷ [])
told_more ps i d lt = ap parts_of (take_more ps i d lt) ∙ map-append told (take i ps) (get_or ps i d ∷ [])

-- a table that all parts of a script have made holds the script
script_built : {M : Type 0} (literal : M → List ℕ) → ((a b : M) → literal a ≡ literal b → a ≡ b) → (ps : List Part) (r : Rows M) → Adds literal ps blank_table (table r) → (raw : g.Raw) → g.raw_parts raw ≡ ps → Built literal ps r
script_built {M} literal one ps r made raw e =
    let P : List Part → Type 0 = λ qs. AllByRecursion (Known literal) qs in
    let x = script_of literal raw (subst P (sym e) (adds_known literal ps blank_table (table r) made)) in
    let written : g.script (spelling literal) x.0 ≡ ps = x.2 ∙ e in
    let Q : List Part → Type 0 = λ qs. Adds literal qs blank_table (after_script blank_table x.0) in
    let same : table r ≡ after_script blank_table x.0 = adds_once literal one ps blank_table _ _ made (subst Q written (script_adds literal x.0 x.1 blank_table)) in
    record { script = x.0; within = x.1; written = written; holds = holds r _ x.0 same (script_held x.0 x.1) }

pub so_far_all : {M : Type 0} (literal : M → List ℕ) → ((a b : M) → literal a ≡ literal b → a ≡ b) → (ps : List Part) (r : Rows M) → SoFar literal ps (table r) → Builds literal ps r
so_far_all literal one ps r h raw written in_range messages = script_built literal one ps r (h (all_clear literal ps in_range messages)) raw written
