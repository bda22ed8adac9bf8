-- A script's uses are there in one way at most, so that a ghost field can keep them.
use Rattle.std.proofs.Common.{◌≡◌, List, length}
use Rattle.std.proofs.Props.{props}
use mathlib.Core.HLevel.{is_prop→PathP}
use Rattle.grammar.specs.declared.words.Use.{Use}
use Rattle.grammar.specs.declared.words.Use.TheVariants.{Bracket, Head, Test, Number, Literal}
use Rattle.tokens.specs.Tokens.{Lexeme, opening, closing, atom}
use Rattle.tokens.proofs.Props.{Run-prop, Integer-prop}
use Rattle.grammar.specs.Grammar.{Part, Raw, raw_parts, Spelled, WellSpelled}
use Rattle.grammar.specs.Forms.{with_uses, Uses}
use Rattle.grammar.proofs.Determined.{raw_determined}

Spelled-prop : (u : Use) (l : Lexeme) → IsProp (Spelled u l)
Spelled-prop u opening = hlevel
Spelled-prop u closing = hlevel
Spelled-prop (Number u) (atom bs) = Integer-prop bs
Spelled-prop (Literal u) (atom bs) = Run-prop bs
Spelled-prop (Bracket u) (atom bs) = hlevel
Spelled-prop (Head k) (atom bs) = hlevel
Spelled-prop (Test t) (atom bs) = hlevel

WellSpelled-prop : (x : Raw) → IsProp (WellSpelled x)
WellSpelled-prop x = hlevel (props, Spelled-prop)

Parts-set : IsSet (List Part)
Parts-set = hlevel props

-- the script that they are is determined, and the rest are facts about it
pub Uses-prop : (ls : List Lexeme) (us : List Use) → IsProp (Uses ls us)
Uses-prop ls us a b =
    let same : a.raw ≡ b.raw = raw_determined ls us us a b in
    let long : IsProp (length us ≡ length ls) = hlevel props in
    λ i. record {
      raw = same i;
      spelled_well = is_prop→PathP (λ j. WellSpelled (same j)) (λ j. WellSpelled-prop (same j)) a.spelled_well b.spelled_well i;
      long = long a.long b.long i;
      written = is_prop→PathP (λ j. raw_parts (same j) ≡ with_uses us ls) (λ j. Parts-set (raw_parts (same j)) (with_uses us ls)) a.written b.written i;
    }
