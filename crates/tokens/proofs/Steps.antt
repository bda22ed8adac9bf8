-- One step over a text.
use Rattle.std.proofs.Common.{◌≡◌, ℕ, ◌+◌, ◌-◌, ◌<◌, ◌≤◌, List, [], ◌∷◌, ◌++◌, Some, None, map, length, take, drop, sym, ap, ◌∙◌, subst, append_assoc, append-nil, one-add, arith}
use Rattle.std.specs.List.{prefix_len, AllByRecursion}
use Rattle.std.proofs.ByRecursion.{All-push}
use Rattle.std.proofs.lemmas.List.{map_push, length-drop}
use Rattle.std.proofs.lemmas.List.Sums.{prefix_len-le-length}
use Rattle.tokens.specs.declared.token.Token.{Token}
use Rattle.tokens.specs.Tokens.{Class, class, runs, with_byte, next_class, tokens, tokens_from}
use Rattle.tokens.specs.Reading.{placed, Classified}
use Rattle.tokens.specs.Scanning.{in_run, TokenOfRun}
use Rattle.tokens.specs.Steps.{ahead, Scanned}
use Rattle.tokens.specs.Tokenised.{Tokenised}
use Rattle.tokens.proofs.Runs.{tokens_run, run_bytes}

-- the tokens before what is left of a text are found
pub record Sofar (text before rest : List ℕ) (ks : List Token) : Type 0 where
  pub same : before ≡ text
  pub within : length rest ≤ length text
  pub split : map placed ks ++ ahead text rest ≡ tokens text
  pub classified : AllByRecursion Classified ks

-- the same tokens are ahead, and no more is left
pub record Passed (text rest before left : List ℕ) : Type 0 where
  pub same : before ≡ text
  pub shorter : length left ≤ length rest
  pub ahead : ahead text left ≡ ahead text rest

-- the token of the run that it begins with
pub run_ahead : (text rest tail : List ℕ) (b : ℕ) → length rest ≤ length text → rest ≡ b ∷ tail → runs ≡ class b → (k : Token) (n : ℕ) (run after : List ℕ) → n ≡ prefix_len in_run rest → run ≡ take n rest → after ≡ drop n rest → TokenOfRun (length text - length rest) run k
    → (ahead text rest ≡ placed k ∷ ahead text after) × Classified k × (length after < length rest)
run_ahead text rest tail b within first is k n run after ends front back t =
    let i = length text - length rest in
    let far : i + n ≡ length text - length after = omega (arith, ap length back, length-drop n rest, ends, prefix_len-le-length in_run rest, within) in
    let long : 1 ≤ n = rw (ends, first, sym is, one-add) (omega arith) in
    let some : 1 ≤ length run = rw (front, ends, first, sym is, one-add) (omega arith) in
    let all : tokens_from i rest ≡ placed k ∷ ahead text after = rw (t.stands, ← far, front, back, ends, first) (tokens_run (length text - length (b ∷ tail)) b tail (sym is)) in
    (all, t.classified (record { some = some; bytes = rw (front, ends) (run_bytes rest) }), omega (arith, ap length back, length-drop n rest, long, ap length first))

-- a token more is found
pub found : (text before rest after : List ℕ) (ks : List Token) (k : Token) → Scanned before rest after (Some k) → Sofar text before rest ks → length after ≤ length text → Sofar text before after (ks ++ (k ∷ []))
found text before rest after ks k step s within = record {
  same = s.same;
  within = within;
  split = ap (λ us. us ++ ahead text after) (map_push placed ks k) ∙ append_assoc (map placed ks) (placed k ∷ []) (ahead text after) ∙ ap (λ us. map placed ks ++ us) (sym (subst (λ t. ahead t rest ≡ placed k ∷ ahead t after) s.same step.0)) ∙ s.split;
  classified = All-push Classified ks k s.classified step.1;
}

pub all_found : (text before rest after : List ℕ) (ks : List Token) → Scanned before rest after None → Sofar text before rest ks → Tokenised text ks
all_found text before rest after ks step s = record {
  tokens_are = sym (append-nil (map placed ks)) ∙ ap (λ us. map placed ks ++ us) (sym (subst (λ t. ahead t rest ≡ []) s.same step.0)) ∙ s.split;
  classified = s.classified;
}

module _ (text left rest : List ℕ) (b : ℕ) (e : left ≡ b ∷ rest) (ks later : List Token) (k : Token) (push : later ≡ ks ++ k ∷ []) {before : List ℕ} (s : Sofar text before left ks) where
  -- the token ahead is pushed
  pushed : (after : List ℕ) → Scanned text left after (Some k) → Sofar text before after later
  pushed after step =
      let here = subst (λ t. Scanned t left after (Some k)) (sym s.same) step in
      subst (Sofar text before after) (sym push) (found text before left after ks k here s (omega (arith, step.2, s.within)))

  -- its first byte is a token
  pub found_byte : (c : Class) → class b ≡ c → with_byte (length text - length left) b c (next_class rest) (tokens_from (length text - length rest) rest) ≡ placed k ∷ tokens_from (length text - length rest) rest → Classified k → Sofar text before rest later
  found_byte c is token h =
      let i = length text - length left in
      let next : i + 1 ≡ length text - length rest = omega (arith, ap length e, s.within) in
      let first = ap (tokens_from i) e ∙ ap (λ d. with_byte i b d (next_class rest) (tokens_from (i + 1) rest)) is ∙ ap (λ j. with_byte i b c (next_class rest) (tokens_from j rest)) next in
      pushed rest (first ∙ token, h, omega (arith, ap length e))

  -- it begins with a run of n bytes
  pub found_run : (n : ℕ) (run after : List ℕ) → class b ≡ runs → n ≡ prefix_len in_run left → run ≡ take n left → after ≡ drop n left → TokenOfRun (length text - length left) run k → Sofar text before after later
  found_run n run after is ends front back t =
      pushed after (run_ahead text left rest b s.within e (sym is) k n run after ends front back t)
