-- The uses of a script's tokens are determined by the tokens, since the machine reads them in one way.
use Rattle.std.proofs.Common.{◌≡◌, List, [], ◌∷◌, map, length, sym, ap, ◌∙◌}
use Rattle.std.proofs.lemmas.List.{length-map}
use Rattle.grammar.specs.declared.words.Use.{Use}
use Rattle.grammar.specs.declared.items.Item.TheVariants.{Top, Bodies}
use Rattle.tokens.specs.Tokens.{Lexeme}
use Rattle.grammar.specs.Grammar.{as_written, raw_parts, part_lexemes, IsScript}
use Rattle.grammar.specs.Forms.{with_uses, Uses, UsedOnce, Injective}
use Rattle.grammar.proofs.Runs.{Run, regroup, same_end}
use Rattle.grammar.proofs.Complete.{script_taken}
use Rattle.grammar.proofs.Parts.{lexemes_of, purposes_of, put_together}
use Rattle.grammar.proofs.Once.{written_once}

reads : (ls : List Lexeme) (us : List Use) → Uses ls us → Run (Top ∷ []) (with_uses us ls) (Bodies ∷ [])
reads ls us a = regroup (sym a.written) (script_taken a.raw)

same_parts : (ls : List Lexeme) (us vs : List Use) → Uses ls us → Uses ls vs → with_uses vs ls ≡ with_uses us ls
same_parts ls us vs a b = (same_end (reads ls us a) (reads ls vs b) (lexemes_of vs ls b.long ∙ sym (lexemes_of us ls a.long))).0

pub uses_determined : UsedOnce
uses_determined ls us vs a b = sym (purposes_of us ls a.long) ∙ sym (ap (map (λ p. p.purpose)) (same_parts ls us vs a b)) ∙ purposes_of vs ls b.long

pub as_written_injective : Injective as_written
as_written_injective = record { number = λ a b e. e; addend = λ a b e. e; literal = λ a b e. e }

-- and so is the script that they are
pub raw_determined : (ls : List Lexeme) (us vs : List Use) (a : Uses ls us) (b : Uses ls vs) → a.raw ≡ b.raw
raw_determined ls us vs a b = written_once as_written as_written_injective a.raw b.raw (a.written ∙ sym (same_parts ls us vs a b) ∙ sym b.written)

-- the tokens of a script have uses
pub script_has_uses : (ls : List Lexeme) → IsScript ls → (us : List Use) × Uses ls us
script_has_uses ls x =
    let ps = raw_parts x.raw in (
      map (λ p. p.purpose) ps,
      record {
        raw = x.raw;
        spelled_well = x.spelled_well;
        long = length-map ps (λ p. p.purpose) ∙ sym (length-map ps (λ p. p.lexeme)) ∙ ap (λ l. length l) x.written;
        written = sym (put_together ps) ∙ ap (with_uses (map (λ p. p.purpose) ps)) x.written;
      },
    )

pub uses_make_script : (ls : List Lexeme) (us : List Use) → Uses ls us → IsScript ls
uses_make_script ls us a = record { raw = a.raw; spelled_well = a.spelled_well; written = ap part_lexemes a.written ∙ lexemes_of us ls a.long }
