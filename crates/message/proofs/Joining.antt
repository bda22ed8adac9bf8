-- Literals of two parts: how far bytes agree with one, from how far they agree with its parts.
use Rattle.std.proofs.Common.{◌≡◌, ℕ, suc, ◌+◌, ◌-◌, ◌<◌, ◌≤◌, List, [], ◌∷◌, ◌++◌, length, take, drop, Some, None, Option, ◌≢◌, slice_index, refl, sym, ap, ap₂, subst, ◌∙◌, append_assoc, inl, inr, arith, length-append}
use Rattle.std.specs.Option.{MatchOption, IsSomeAnd}
use Rattle.std.proofs.lemmas.List.{take-append-drop, drop_more, length-take-le, append-nil, take-take, take_at, get_or_at, get_or-take}
use Rattle.std.proofs.lemmas.Bool.{cases_lt}
use Rattle.message.specs.declared.literal.Lead.{Lead}
use Rattle.message.specs.declared.joined.Joined.{Joined}
use Rattle.message.specs.Literals.{Longest, Found, Leads}
use Rattle.message.specs.Joins.{joined, Free}
use Rattle.message.specs.Joining.{cut_once}
use Rattle.message.proofs.Fronts.{begins_shorter, longest_by}

-- two lists that begin one list: the shorter begins the longer
shorter_front : (a b t u : List ℕ) → a ++ t ≡ b ++ u → length a ≤ length b → (r : List ℕ) × (a ++ r ≡ b) × (t ≡ r ++ u)
shorter_front [] b t u e h = (b, refl, e)
shorter_front (x ∷ a) [] t u e h = absurd (omega arith)
shorter_front (x ∷ a) (y ∷ b) t u e h =
    let p = shorter_front a b t u (ap (drop 1) e) (omega arith) in
    (p.0, ap₂ (λ v w. v ∷ w) (ap (λ l. slice_index l 0) e) p.1, p.2)

take_over : (a : List ℕ) (b : ℕ) (t : List ℕ) (i : ℕ) → take (length a + 1 + i) (a ++ (b ∷ t)) ≡ a ++ (b ∷ take i t)
take_over [] b t i = let z : 1 + i ≡ suc i = omega arith in ap (λ v. take v (b ∷ t)) z
take_over (x ∷ a) b t i =
    let z : suc (length a) + 1 + i ≡ suc (length a + 1 + i) = omega arith in
    ap (λ v. take v (x ∷ (a ++ (b ∷ t)))) z ∙ ap (λ l. x ∷ l) (take_over a b t i)

-- The left part and the separator are there: the right part decides.

right_longest : {A B : Type 0} (one : A → List ℕ) (two : B → List ℕ) (b : ℕ) → ((x : A) → Free b (one x))
    → (s t : List ℕ) (x : A) (k : ℕ) → s ≡ one x ++ (b ∷ t) → Longest two t k → Longest (joined one b two) s (length (one x) + 1 + k)
right_longest one two b free s t x k e l =
    let n : ℕ = length (one x) in
    let long : length s ≡ n + suc (length t) = ap length e ∙ length-append (one x) (b ∷ t) in
    let front : (i : ℕ) → take (n + 1 + i) s ≡ one x ++ (b ∷ take i t) = λ i. ap (take (n + 1 + i)) e ∙ take_over (one x) b t i in
    longest_by s (n + 1 + k) (omega (arith, l.within))
    (record { left = x; right = l.begins.0 }, l.begins.1, ap (λ y. y ++ l.begins.1) (front k) ∙ append_assoc (one x) (b ∷ take k t) l.begins.1 ∙ ap (λ y. one x ++ (b ∷ y)) l.begins.2)
    (λ i h le q.
    let d : ℕ = i - (n + 1) in
    let z : i ≡ n + 1 + d = omega arith in
    let p = cut_once (one x) (one q.0.left) b (take d t ++ q.1) (two q.0.right) (free x) (free q.0.left)
    (sym (append_assoc (one x) (b ∷ take d t) q.1) ∙ ap (λ y. y ++ q.1) (sym (front d) ∙ ap (λ v. take v s) (sym z)) ∙ q.2) in
    omega (arith, l.most d (omega arith) (q.0.right, q.1, p.1)))

right_found : {A B : Type 0} (one : A → List ℕ) (two : B → List ℕ) (b : ℕ) → ((x : A) → Free b (one x))
    → (s t : List ℕ) (x : A) (k : ℕ) → s ≡ one x ++ (b ∷ t) → ((y : B) → take k t ≢ two y)
    → (m : Joined A B) → take (length (one x) + 1 + k) s ≢ joined one b two m
right_found one two b free s t x k e none m q =
    none m.right (cut_once (one x) (one m.left) b (take k t) (two m.right) (free x) (free m.left) (sym (ap (take (length (one x) + 1 + k)) e ∙ take_over (one x) b t k) ∙ q)).1

right_by : {A B : Type 0} {F : B → Joined A B → Type 0} (one : A → List ℕ) (two : B → List ℕ) (b : ℕ) → ((x : A) → Free b (one x))
    → (s t : List ℕ) (x : A) (k : ℕ) (o : Option B) (r : Option (Joined A B)) → s ≡ one x ++ (b ∷ t) → Found two (take k t) o
    → ((y : B) (j : Joined A B) → F y j → j ≡ record { left = x; right = y }) → MatchOption o (r ≡ None) (λ y. IsSomeAnd r (F y)) → Found (joined one b two) (take (length (one x) + 1 + k) s) r
right_by one two b free s t x k (Some y) (Some j) e found made m =
    ap (take (length (one x) + 1 + k)) e ∙ take_over (one x) b t k ∙ ap (λ v. one x ++ (b ∷ v)) found ∙ ap (joined one b two) (sym (made y j m))
right_by one two b free s t x k (Some y) None e found made m = absurd m
right_by one two b free s t x k None r e found made m = rw m (right_found one two b free s t x k e found)

pub right_decides : {A B : Type 0} {F : B → Joined A B → Type 0} (one : A → List ℕ) (two : B → List ℕ) (b : ℕ) → ((x : A) → Free b (one x))
    → (s t : List ℕ) (n : ℕ) (x : A) (l : Lead B) (r : Option (Joined A B)) → n ≤ length s → take n s ≡ one x → drop n s ≡ b ∷ t → Leads two t l
    → ((y : B) (j : Joined A B) → F y j → j ≡ record { left = x; right = y }) → MatchOption l.value (r ≡ None) (λ y. IsSomeAnd r (F y))
    → Leads (joined one b two) s (record { length = n + 1 + l.length; value = r })
right_decides one two b free s t n x l r within left right h made m =
    let len : length (one x) ≡ n = ap length (sym left) ∙ length-take-le n s within in
    let whole : s ≡ one x ++ (b ∷ t) = sym (take-append-drop n s) ∙ ap₂ (λ u v. u ++ v) left right in
    let P : ℕ → Type 0 = λ i. Leads (joined one b two) s (record { length = i + 1 + l.length; value = r }) in
    subst P len (record { longest = right_longest one two b free s t x l.length whole h.longest; found = right_by one two b free s t x l.length l.value r whole h.found made m })

-- There is no whole left part, or no separator after it: the left part decides.

past : {A : Type 0} (one : A → List ℕ) (b : ℕ) (s : List ℕ) (n : ℕ) → Longest one s n → ((x : A) → take n s ≡ one x → n < length s → slice_index s n ≢ b) → ((x : A) → Free b (one x)) → n < length s
    → (x : A) → length (one x) ≤ n → (r rest two : List ℕ) → one x ++ r ≡ take (n + 1) s → b ∷ two ≢ r ++ rest
past one b s n l bare free lt x ge [] rest two e f =
    omega (arith, length-take-le (n + 1) s (omega arith), ap length e, ap length (append-nil (one x)))
past one b s n l bare free lt x ge (c ∷ r) rest two e f =
    let cb : b ≡ c = ap (λ v. slice_index v 0) f in
    let e' : one x ++ (b ∷ r) ≡ take (n + 1) s = ap (λ v. one x ++ (v ∷ r)) cb ∙ e in
    let cut : take n s ≡ take n (one x ++ (b ∷ r)) = sym (take-take n (n + 1) s (omega arith)) ∙ ap (take n) (sym e') in
    elim (cases_lt (length (one x)) n) [
      | inl less ↦ let i : ℕ = n - (length (one x) + 1) in
          let z : n ≡ length (one x) + 1 + i = omega arith in
          let t : take n s ≡ one x ++ (b ∷ take i r) = cut ∙ ap (λ v. take v (one x ++ (b ∷ r))) z ∙ take_over (one x) b r i in
          free l.begins.0 (one x) (take i r ++ l.begins.1) (sym l.begins.2 ∙ ap (λ v. v ++ l.begins.1) t ∙ append_assoc (one x) (b ∷ take i r) l.begins.1)
      | inr more ↦ let z : length (one x) ≡ n = omega arith in
          bare x (cut ∙ take_at (one x) (b ∷ r) n z) lt (sym (get_or-take (n + 1) s n 0 (omega arith)) ∙ ap (λ v. slice_index v n) (sym e') ∙ get_or_at (one x) b r 0 n z)
    ]

-- with some right part, so that what begins a left part begins a whole
pub left_decides : {A B : Type 0} (one : A → List ℕ) (two : B → List ℕ) (b : ℕ) → ((x : A) → Free b (one x)) → B
    → (s : List ℕ) (n : ℕ) → Longest one s n → ((x : A) → take n s ≡ one x → (rest : List ℕ) → drop n s ≢ b ∷ rest)
    → Leads (joined one b two) s (record { length = n; value = None })
left_decides one two b free some s n l bare = record {
  longest = longest_by s n l.within
      (record { left = l.begins.0; right = some }, l.begins.1 ++ (b ∷ two some), sym (append_assoc (take n s) l.begins.1 (b ∷ two some)) ∙ ap (λ v. v ++ (b ∷ two some)) l.begins.2)
      (λ i h le q.
      let w = begins_shorter s i (n + 1) (omega arith) q in
      let x = w.0.left in
      let f : take (n + 1) s ++ w.1 ≡ one x ++ (b ∷ two w.0.right) = w.2 in
      let long : length (take (n + 1) s) ≡ n + 1 = length-take-le (n + 1) s (omega arith) in
      elim (cases_lt n (length (one x))) [
        | inl lt ↦ let p = shorter_front (take (n + 1) s) (one x) w.1 (b ∷ two w.0.right) f (omega arith) in
            omega (arith, l.most (n + 1) (omega arith) (x, p.0, p.1))
        | inr ge ↦ let p = shorter_front (one x) (take (n + 1) s) (b ∷ two w.0.right) w.1 (sym f) (omega arith) in
            past one b s n l (λ y e lt at. bare y e (drop (n + 1) s) (drop_more s n 0 lt ∙ ap (λ v. v ∷ drop (n + 1) s) at)) free (omega arith) x ge p.0 w.1 (two w.0.right) p.1 p.2
      ]);
  found = λ m e.
      free l.begins.0 (one m.left) (two m.right ++ l.begins.1) (sym l.begins.2 ∙ ap (λ v. v ++ l.begins.1) e ∙ append_assoc (one m.left) (b ∷ two m.right) l.begins.1);
}
