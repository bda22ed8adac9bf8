-- What the machine's stack says of the tokens read so far.
use Rattle.std.proofs.Common.{◌≡◌, ℕ, ◌+◌, ◌<◌, ◌≤◌, Bool, true, false, List, [], ◌∷◌, ◌++◌, map, reverse, length, get_or, take, Some, None, Option, sym, refl, ap, ◌∙◌, subst, subst₂, append_assoc, append-nil, arith}
use Rattle.std.specs.List.{AllByRecursion}
use Rattle.std.proofs.ByRecursion.{All-append, All-get_or, All-push}
use Rattle.std.proofs.lemmas.List.{take-map, take_more, map_more, map-append, take_all, length-map, reverse-reverse}
use Rattle.grammar.specs.declared.words.Use.{Use}
use Rattle.grammar.specs.declared.items.Item.{Item}
use Rattle.grammar.specs.declared.items.Item.TheVariants.{Top, Bodies, Instrs, Events, Event, Action, Head, Number, Literal, Test, Shut}
use Rattle.tokens.specs.declared.token.Token.{Token}
use Rattle.tokens.specs.Tokens.{Lexeme}
use Rattle.tokens.specs.Reading.{lexeme, Classified}
use Rattle.grammar.specs.Grammar.{Part, part_lexemes, raw_parts, Spelled, IsScript, Viable}
use Rattle.grammar.specs.declared.part.Part as code
use Rattle.grammar.specs.Parts.{told, parts_of}
use Rattle.grammar.specs.Verdicts.{AreParts}
use Rattle.grammar.specs.Forms.{with_uses, MisfitAt}
use Rattle.grammar.specs.Machine.{step}
use Rattle.grammar.specs.Stacks.{Refused, Stepped, is_bodies, ended}
use Rattle.grammar.proofs.Runs.{Run, stop, read, read_on, regroup, follow, same_end}
use Rattle.grammar.proofs.Values.{prints}
use Rattle.grammar.proofs.Sound.{run_sound}
use Rattle.grammar.proofs.Complete.{script_taken}
use Rattle.grammar.proofs.Witness.{some_values, fit_values}
use Rattle.grammar.proofs.Parts.{Fit, all_last, told_lexemes, told_together, spelled_suits, suits_spelled}

-- k tokens have been read, as these parts, and the stack has its top last
pub record SoFar (ts : List Token) (k : ℕ) (ps : List code.Part) (s : List Item) : Type 0 where
  pub tokens_are : map (λ p. p.token) ps ≡ take k ts
  pub ran : Run (Top ∷ []) (parts_of ps) (reverse s)
  pub fit : AllByRecursion Classified ts → AllByRecursion Fit (parts_of ps)

pub at_start : (ts : List Token) (ps : List code.Part) (s₀ s : List Item) → ps ≡ [] → s₀ ≡ [] → s ≡ s₀ ++ (Top ∷ []) → SoFar ts 0 ps s
at_start ts ps s₀ s e f g = subst₂ (SoFar ts 0) (sym e) (sym (g ∙ ap (λ x. x ++ (Top ∷ [])) f)) (record { tokens_are = refl; ran = stop; fit = λ _. tt })

-- the first of the parts, as the machine reads it
next_part : {s s₁ : List Item} {ps : List Part} → Run s ps s₁ → (l : Lexeme) (rest : List Lexeme) → part_lexemes ps ≡ l ∷ rest → AllByRecursion Fit ps → (u : Use) × (s₂ : List Item) × (step s l ≡ Some (u, s₂)) × Spelled u l
next_part stop l rest e fits = cc
next_part (read {s = s} {s₁ = s₂} {p = p} f run) l rest e fits =
    let same : p.lexeme ≡ l = cc in
    (p.purpose, s₂, ap (step s) (sym same) ∙ f, subst (Spelled p.purpose) same fits.0)

bodies_is : (i : Item) → is_bodies i ≡ true → i ≡ Bodies
bodies_is Bodies e = refl
bodies_is Top e = cc
bodies_is Instrs e = cc
bodies_is Events e = cc
bodies_is (Event u) e = cc
bodies_is Action e = cc
bodies_is (Head r) e = cc
bodies_is (Number u) e = cc
bodies_is (Literal u) e = cc
bodies_is Test e = cc
bodies_is (Shut u) e = cc

end_is : (s : List Item) → ended s ≡ true → s ≡ Bodies ∷ []
end_is [] e = cc
end_is (i ∷ []) e = ap (λ j. j ∷ []) (bodies_is i e)
end_is (i ∷ j ∷ s) e = cc

not_ended : (s : List Item) → ended s ≡ false → reverse s ≡ Bodies ∷ [] → ⊥
not_ended s no_end e =
    let is : s ≡ Bodies ∷ [] = sym (reverse-reverse s) ∙ ap reverse e in
    let both : ◌≡◌ {A = Bool} true false = sym (ap ended is) ∙ no_end in
    cc

module _ (ts : List Token) (k : ℕ) (ps : List code.Part) (s : List Item) (h : SoFar ts k ps s) where
  lexemes_are : part_lexemes (parts_of ps) ≡ take k (map lexeme ts)
  lexemes_are = told_lexemes ps ∙ ap (map lexeme) h.tokens_are ∙ sym (take-map lexeme k ts)

  next_lexeme : (d : Token) → k < length ts → take (k + 1) (map lexeme ts) ≡ take k (map lexeme ts) ++ (lexeme (get_or ts k d) ∷ [])
  next_lexeme d lt = take-map lexeme (k + 1) ts ∙ map_more lexeme ts k d lt ∙ ap (λ x. x ++ (lexeme (get_or ts k d) ∷ [])) (sym (take-map lexeme k ts))

  one_on : (d : Token) (u : Use) (s₁ : List Item) → k < length ts → Stepped s (get_or ts k d) (Some u) s₁ → SoFar ts (k + 1) (ps ++ (record { purpose = u; token = get_or ts k d } ∷ [])) s₁
  one_on d u s₁ lt w =
      let t = get_or ts k d in
      let p : code.Part = record { purpose = u; token = t } in
      let parts : parts_of (ps ++ (p ∷ [])) ≡ parts_of ps ++ (told p ∷ []) = map-append told ps (p ∷ []) in
      record {
        tokens_are = map-append (λ p. p.token) ps (p ∷ []) ∙ ap (λ x. x ++ (t ∷ [])) h.tokens_are ∙ sym (take_more ts k d lt);
        ran = regroup parts (read_on (told p) (reverse s₁) h.ran w.0);
        fit = λ c. subst (AllByRecursion Fit) (sym parts) (All-push Fit _ (told p) (h.fit c) (suits_spelled u t (All-get_or Classified ts k d lt c) w.1));
      }

  pub goes_on : (d : Token) (o : Option Use) (u : Use) (ps₁ : List code.Part) (s₁ : List Item) → k < length ts → Stepped s (get_or ts k d) o s₁ → o ≡ Some u → ps₁ ≡ ps ++ (record { purpose = u; token = get_or ts k d } ∷ []) → SoFar ts (k + 1) ps₁ s₁
  goes_on d o u ps₁ s₁ lt w e f = subst (λ x. SoFar ts (k + 1) x s₁) (sym f) (one_on d u s₁ lt (subst (λ x. Stepped s (get_or ts k d) x s₁) e w))

  -- what a script has read, the machine has
  begun : AllByRecursion Classified ts → Viable (take k (map lexeme ts))
  begun c =
      let rest = prints (reverse s) (some_values (reverse s)) in
      let u = run_sound h.ran (some_values (reverse s)) in
      let e : raw_parts u.0.0 ≡ parts_of ps ++ rest = sym (append-nil (raw_parts u.0.0)) ∙ u.1 in
      record {
        rest = part_lexemes rest;
        whole = record {
          raw = u.0.0;
          spelled_well = record { parts = subst (AllByRecursion Fit) (sym e) (All-append Fit _ rest (h.fit c) (fit_values (reverse s))) };
          written = ap part_lexemes e ∙ map-append (λ p. p.lexeme) _ rest ∙ ap (λ x. x ++ part_lexemes rest) lexemes_are;
        };
      }

  -- a script that goes on with a token has the machine go on with it
  over : (d : Token) → k < length ts → Viable (take (k + 1) (map lexeme ts)) → (u : Use) × (s₁ : List Item) × (step (reverse s) (lexeme (get_or ts k d)) ≡ Some (u, s₁)) × Spelled u (lexeme (get_or ts k d))
  over d lt v =
      let l = lexeme (get_or ts k d) in
      let x = v.whole.raw in
      let e : part_lexemes (raw_parts x) ≡ part_lexemes (parts_of ps) ++ (l ∷ v.rest) = v.whole.written ∙ ap (λ y. y ++ v.rest) (next_lexeme d lt) ∙ append_assoc (take k (map lexeme ts)) (l ∷ []) v.rest ∙ ap (λ y. y ++ (l ∷ v.rest)) (sym lexemes_are) in
      let left = follow h.ran (script_taken x) (l ∷ v.rest) e in
      next_part left.ran l v.rest left.lexemes (all_last Fit (parts_of ps) left.parts (subst (AllByRecursion Fit) left.joined v.whole.spelled_well.parts))

  pub stops : (d : Token) (o : Option Use) (s₁ : List Item) → k < length ts → Stepped s (get_or ts k d) o s₁ → o ≡ None → AllByRecursion Classified ts → MisfitAt (map lexeme ts) k
  stops d o s₁ lt w e c =
      let no_step : Refused s (get_or ts k d) = subst (λ x. Stepped s (get_or ts k d) x s₁) e w in
      record {
        within = omega (arith, length-map ts lexeme);
        before = begun c;
        here = λ _ v.
            let o = over d lt v in
            no_step o.0 o.1 o.2 (spelled_suits o.0 (get_or ts k d) (All-get_or Classified ts k d lt c) o.3);
        missing = λ e _. omega (arith, length-map ts lexeme);
      }

  pub accepted : (b : Bool) (s₁ : List Item) → length ts ≤ k → b ≡ ended s₁ → s₁ ≡ s → b ≡ true → AllByRecursion Classified ts → AreParts ts ps
  accepted b s₁ le e f g c =
      let at_end : reverse s ≡ Bodies ∷ [] = ap reverse (end_is s (sym (e ∙ ap ended f) ∙ g)) in
      let u = run_sound (subst (Run (Top ∷ []) (parts_of ps)) at_end h.ran) ([], tt) in
      let same : raw_parts u.0.0 ≡ parts_of ps = sym (append-nil (raw_parts u.0.0)) ∙ u.1 ∙ append-nil (parts_of ps) in
      let tokens_are : map (λ p. p.token) ps ≡ ts = h.tokens_are ∙ take_all k ts le in
      record {
        uses = record {
          raw = u.0.0;
          spelled_well = record { parts = subst (AllByRecursion Fit) (sym same) (h.fit c) };
          long = length-map ps (λ p. p.purpose) ∙ sym (length-map ps (λ p. p.token)) ∙ ap length tokens_are ∙ sym (length-map ts lexeme);
          written = same ∙ sym (told_together ps) ∙ ap (λ x. with_uses (map (λ p. p.purpose) ps) (map lexeme x)) tokens_are;
        };
        tokens_are = tokens_are;
      }

  stack_is : length ts ≤ k → IsScript (map lexeme ts) → reverse s ≡ Bodies ∷ []
  stack_is le x = (same_end h.ran (script_taken x.raw) (x.written ∙ sym (take_all k (map lexeme ts) (omega (arith, length-map ts lexeme))) ∙ sym lexemes_are)).1

  pub unfinished : (b : Bool) (s₁ : List Item) → length ts ≤ k → k ≤ length ts → b ≡ ended s₁ → s₁ ≡ s → b ≡ false → AllByRecursion Classified ts → MisfitAt (map lexeme ts) (length ts)
  unfinished b s₁ le ge e f g c =
      let same : k ≡ length ts = omega arith in
      record {
        within = omega (arith, length-map ts lexeme);
        before = subst (λ n. Viable (take n (map lexeme ts))) same (begun c);
        here = λ lt _. omega (arith, length-map ts lexeme);
        missing = λ _ x. not_ended s (sym (e ∙ ap ended f) ∙ g) (stack_is le x);
      }
