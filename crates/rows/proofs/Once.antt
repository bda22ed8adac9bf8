-- Bytes are one entry at most, so parts make one table at most.
use Rattle.std.proofs.Common.{◌≡◌, ℕ, ◌^◌, ◌<◌, List, [], ◌∷◌, Option, Some, sym, refl, ap, ◌∙◌, subst, arith}
use Rattle.std.specs.List.{AllByRecursion}
use Rattle.std.proofs.lemmas.Fmt.{decimal_injective, signed_decimal_injective}
use Rattle.grammar.specs.declared.words.Use.{Use}
use Rattle.grammar.specs.declared.words.Use.TheVariants.{Bracket, Head, Test, Number, Literal}
use Rattle.grammar.specs.declared.words.NumberUse.{NumberUse}
use Rattle.grammar.specs.declared.words.NumberUse.TheVariants.{NewPort, NewBody, SendPort, RecvPort, SpawnBody, NackBody, Delay, Addend}
use Rattle.grammar.specs.Grammar.{Part}
use Rattle.grammar.specs.Parts.{bytes}
use Rattle.passes.specs.Ranges.{InRange, Ranged}
use Rattle.passes.specs.Messages.{MessageFor}
use Rattle.rows.specs.declared.row.Node.TheVariants as node
use Rattle.rows.specs.declared.entry.Entry.{Entry}
use Rattle.rows.specs.declared.entry.Entry.TheVariants as entry
use Rattle.rows.specs.Entries.{bracket_entry, head_entry, literal_entry, NumberUptoEntry, NumberEntry, EntryOf}
use Rattle.rows.specs.Tables.{Table, with_some}
use Rattle.rows.proofs.Adding.{Steps, Adds}
use Rattle.rows.proofs.Valued.{Known}

upto_once : {M : Type 0} (max : ℕ) (entry : ℕ → Entry M) (bs : List ℕ) (d e : Entry M) → max < 2 ^ 32 → NumberUptoEntry max entry bs d → NumberUptoEntry max entry bs e → d ≡ e
upto_once max entry bs d e f (m, ml, mw, md) (n, nl, nw, ne) =
    md ∙ ap entry (decimal_injective m n (omega arith) (omega arith) (sym mw ∙ nw)) ∙ sym ne

number_once : {M : Type 0} (u : NumberUse) (bs : List ℕ) (d e : Entry M) → NumberEntry u bs d → NumberEntry u bs e → d ≡ e
number_once (NewPort k) bs d e h i = upto_once _ _ bs d e (omega arith) h i
number_once NewBody bs d e h i = upto_once _ _ bs d e (omega arith) h i
number_once SendPort bs d e h i = upto_once _ _ bs d e (omega arith) h i
number_once RecvPort bs d e h i = upto_once _ _ bs d e (omega arith) h i
number_once SpawnBody bs d e h i = upto_once _ _ bs d e (omega arith) h i
number_once NackBody bs d e h i = upto_once _ _ bs d e (omega arith) h i
number_once Delay bs d e h i = upto_once _ _ bs d e (omega arith) h i
number_once Addend bs d e (y, yl, yw, yd) (z, zl, zw, ze) =
    yd ∙ ap (λ k. entry.Node (node.Add k)) (signed_decimal_injective y z (omega arith) (omega arith) (sym yw ∙ zw)) ∙ sym ze

-- a number in its range has an entry
number_entry : {M : Type 0} (u : NumberUse) (bs : List ℕ) → InRange u bs → (e : Entry M) × NumberEntry u bs e
number_entry (NewPort k) bs (n, l, w) = (_, (n, l, w, refl))
number_entry NewBody bs (n, l, w) = (_, (n, l, w, refl))
number_entry SendPort bs (n, l, w) = (_, (n, l, w, refl))
number_entry RecvPort bs (n, l, w) = (_, (n, l, w, refl))
number_entry SpawnBody bs (n, l, w) = (_, (n, l, w, refl))
number_entry NackBody bs (n, l, w) = (_, (n, l, w, refl))
number_entry Delay bs (n, l, w) = (_, (n, l, w, refl))
number_entry Addend bs (z, l, w) = (_, (z, l, w, refl))

number_range : {M : Type 0} (u : NumberUse) (bs : List ℕ) (e : Entry M) → NumberEntry u bs e → InRange u bs
number_range (NewPort k) bs e (n, l, w, is) = (n, l, w)
number_range NewBody bs e (n, l, w, is) = (n, l, w)
number_range SendPort bs e (n, l, w, is) = (n, l, w)
number_range RecvPort bs e (n, l, w, is) = (n, l, w)
number_range SpawnBody bs e (n, l, w, is) = (n, l, w)
number_range NackBody bs e (n, l, w, is) = (n, l, w)
number_range Delay bs e (n, l, w, is) = (n, l, w)
number_range Addend bs e (z, l, w, is) = (z, l, w)

module _ {M : Type 0} (literal : M → List ℕ) where
  -- a part has an entry just where its number is in range and its literal a message's

  pub entry_from : (u : Use) (bs : List ℕ) → Ranged u bs → MessageFor literal u bs → (o : Option (Entry M)) × EntryOf literal u bs o
  entry_from (Bracket u) bs r m = (bracket_entry u, refl)
  entry_from (Head k) bs r m = (head_entry k, refl)
  entry_from (Test t) bs r m = (Some (entry.Node (node.Guard t)), refl)
  entry_from (Number u) bs r m = let h = number_entry u bs r in (Some h.0, (h.0, h.1, refl))
  entry_from (Literal u) bs r m = (Some (literal_entry u m.0), (literal_entry u m.0, (m.0, m.1, refl), refl))

  known_from : (u : Use) (bs : List ℕ) (o : Option (Entry M)) → EntryOf literal u bs o → Ranged u bs × MessageFor literal u bs
  known_from (Bracket u) bs o h = (tt, tt)
  known_from (Head k) bs o h = (tt, tt)
  known_from (Test t) bs o h = (tt, tt)
  known_from (Number u) bs o h = (number_range u bs h.0 h.1, tt)
  known_from (Literal u) bs o h = (tt, (h.1.0, h.1.1))

  steps_known : (ps : List Part) (t u : Table M) → Steps literal ps t u → AllByRecursion (Known literal) ps
  steps_known [] t u h = tt
  steps_known (p ∷ ps) t u (o, of, rest) = (known_from p.purpose (bytes p) o of, steps_known ps (with_some t o) u rest)

  pub adds_known : (ps : List Part) (t u : Table M) → Adds literal ps t u → AllByRecursion (Known literal) ps
  adds_known ps t u h = steps_known ps t u h.steps

  module _ (one : (a b : M) → literal a ≡ literal b → a ≡ b) where
    entry_once : (u : Use) (bs : List ℕ) (d e : Option (Entry M)) → EntryOf literal u bs d → EntryOf literal u bs e → d ≡ e
    entry_once (Bracket u) bs d e h i = h ∙ sym i
    entry_once (Head k) bs d e h i = h ∙ sym i
    entry_once (Test t) bs d e h i = h ∙ sym i
    entry_once (Number u) bs d e (x, h, l) (y, i, r) = l ∙ ap Some (number_once u bs x y h i) ∙ sym r
    entry_once (Literal u) bs d e (x, (m, mw, md), l) (y, (n, nw, ne), r) = l ∙ ap Some (md ∙ ap (literal_entry u) (one m n (sym mw ∙ nw)) ∙ sym ne) ∙ sym r

    steps_once : (ps : List Part) (t u v : Table M) → Steps literal ps t u → Steps literal ps t v → u ≡ v
    steps_once [] t u v h i = sym h ∙ i
    steps_once (p ∷ ps) t u v (d, dof, dr) (e, eof, er) =
        let P : Option (Entry M) → Type 0 = λ x. Steps literal ps (with_some t x) v in
        steps_once ps (with_some t d) u v dr (subst P (entry_once p.purpose (bytes p) e d eof dof) er)

    pub adds_once : (ps : List Part) (t u v : Table M) → Adds literal ps t u → Adds literal ps t v → u ≡ v
    adds_once ps t u v h i = steps_once ps t u v h.steps i.steps
