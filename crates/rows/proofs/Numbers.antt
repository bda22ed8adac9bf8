-- Whole bytes as a number or a literal.
use Rattle.std.proofs.Common.{◌≡◌, ℕ, List, Some, None, Ok, Err, Option, Result, ◌⊎◌, inl, inr, refl, arith}
use Rattle.std.specs.Result.{result_ok}
use Rattle.message.specs.declared.weight.Weight.{Weight}
use Rattle.message.specs.declared.literal.LiteralFault.{LiteralFault}
use Rattle.message.specs.Weights.{weight, weight_literal}
use Rattle.message.specs.Literals.{Reads}
use Rattle.grammar.specs.declared.words.Use.{Use}
use Rattle.grammar.specs.declared.words.Use.TheVariants.{Literal}
use Rattle.grammar.specs.declared.words.NumberUse.{NumberUse}
use Rattle.grammar.specs.declared.words.NumberUse.TheVariants.{Addend}
use Rattle.grammar.specs.declared.words.LiteralUse.{LiteralUse}
use Rattle.rows.specs.declared.entry.Entry.{Entry}
use Rattle.rows.specs.Entries.{ReadAs, NumberEntry, NumberEntryRead, LiteralEntry, LiteralEntryRead, EntryRead}

no_weight : {M : Type 0} (bs : List ℕ) (r : Result Weight LiteralFault) → result_ok r ≡ None → Reads weight_literal bs r → (e : Entry M) → NumberEntry Addend bs e → ⊥
no_weight bs (Ok w) none reads e given = let z : ◌≡◌ {A = ℕ} 0 1 = cc in omega arith
no_weight bs (Err fault) none reads e (z, small, written, is) = reads.0 (weight z small) written

pub no_addend : {M : Type 0} (u : NumberUse) (bs : List ℕ) (o : Option (Entry M)) (r : Result Weight LiteralFault) → u ≡ Addend → o ≡ None → result_ok r ≡ None → Reads weight_literal bs r → NumberEntryRead u bs o
no_addend u bs o r is fails none reads = rw (is, fails) (no_weight bs r none reads)

-- what is read of a number or a literal is what its token adds

read_of : {M : Type 0} (P : Entry M → Type 0) (o : Option (Entry M)) → ReadAs P o
    → ((e : Entry M) × P e × (o ≡ Some e)) ⊎ ((o ≡ None) × ((q : Option (Entry M)) → ((e : Entry M) × P e × (q ≡ Some e)) → ⊥))
read_of P None h = inr (refl, λ q (e, of, is). h e of)
read_of P (Some e) h = inl (e, h, refl)

pub literal_reads : {M : Type 0} (literal : M → List ℕ) (u : Use) (l : LiteralUse) (bs given : List ℕ) (o : Option (Entry M)) → u ≡ Literal l → given ≡ bs → LiteralEntryRead literal l given o → EntryRead literal u bs o
literal_reads literal u l bs given o is same reads = rw (is, ← same) (read_of (LiteralEntry literal l given) o reads)
