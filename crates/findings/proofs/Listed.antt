-- Findings listed group by group.
use Rattle.std.proofs.Common.{◌≡◌, ℕ, zero, suc, ◌+◌, ◌<◌, ◌≤◌, Bool, true, false, cond, List, [], ◌∷◌, ◌++◌, length, take, drop, Some, None, Ok, Err, Option, Result, sym, refl, ap, ◌∙◌, subst, append_assoc, arith, length-append}
use Rattle.std.proofs.lemmas.List.{take_all, take-append-le, drop_all, drop-append-le, drop-drop}
use Rattle.std.specs.Option.{option_to_list}
use Rattle.refusals.specs.declared.Refusal.{Refusal}
use Rattle.answers.specs.declared.Finding.{Finding}
use Rattle.answers.specs.Findings.{finding_at}
use Rattle.theory.specs.Rows.{found_below}
use Rattle.bounded_list.specs.Lists.{Extended, AddsFound}
use Rattle.bounded_list.proofs.Written.{Written, written_length}
use Rattle.bounded_list.proofs.Founds.{found_few}

-- a group of findings is what is found by a test that agrees with its own
pub found_by : (b b' : ℕ → Bool) (f : ℕ → Finding) (n : ℕ) → ((p : ℕ) → p < n → b' p ≡ b p) → found_below (finding_at b' f) n ≡ found_below (finding_at b f) n
found_by b b' f zero same = refl
found_by b b' f (suc n) same =
    ap (λ z. z ++ option_to_list (finding_at b' f n)) (found_by b b' f n (λ p h. same p (omega arith)))
    ∙ ap (λ v. found_below (finding_at b f) n ++ option_to_list (cond v (Some (f n)) None)) (same n (omega arith))

-- where there is room for one item of each number, all that is found is added
pub must_extend : {X T : Type 0} (at : ℕ → Option T) (end : ℕ) (before : List T) (n : ℕ) (r : Result X Refusal) (after : List T) (n' : ℕ) →
    n + end ≤ length before → AddsFound at end before n r after n' → Extended (found_below at end) before n after n'
must_extend at end before n (Ok u) after n' room a = a.1
must_extend at end before n (Err e) after n' room a = absurd (omega (arith, a.0))

-- a group behind those that are written
pub written_group : {T : Type 0} (lent items group memory : List T) (n : ℕ) (memory' : List T) (n' : ℕ) →
    Written lent items memory n → length items + length group ≤ length lent → Extended group memory n memory' n' →
    Written lent (items ++ group) memory' n'
written_group lent items group memory n memory' n' w fits e =
    let k = length items in
    let rest = drop k lent in
    let long : length (items ++ group) ≡ k + length group = length-append items group in
    let front : take n memory ≡ items =
    ap (λ z. take z memory) w.long ∙ ap (take k) w.front ∙ take-append-le k items rest (omega arith) ∙ take_all k items (omega arith) in
    let back : drop (n + length group) memory ≡ drop (length (items ++ group)) lent =
    ap (λ z. drop (z + length group) memory) w.long
    ∙ ap (drop (k + length group)) w.front
    ∙ sym (drop-drop (length group) k (items ++ rest))
    ∙ ap (drop (length group)) (drop-append-le k items rest (omega arith) ∙ ap (λ z. z ++ rest) (drop_all k items (omega arith)))
    ∙ drop-drop (length group) k lent
    ∙ ap (λ z. drop z lent) (sym long) in
    record {
      fits = omega (arith, long);
      front =
          e.memory
          ∙ ap (λ z. z ++ (group ++ drop (n + length group) memory)) front
          ∙ ap (λ z. items ++ (group ++ z)) back
          ∙ sym (append_assoc items group (drop (length (items ++ group)) lent));
      long = omega (arith, e.len, w.long, long);
    }

-- three groups, one behind the other, into memory that has room for all
module _ {X : Type 0} (first second third : ℕ → Option Finding) (places : ℕ) (lent : List Finding) (few : places ≤ 64) (room : 192 ≤ length lent) where
  pub three_groups :
      (n : ℕ) (r : Result X Refusal) (m₁ : List Finding) (n₁ : ℕ) (r₁ : Result X Refusal) (m₂ : List Finding) (n₂ : ℕ) (r₂ : Result X Refusal) (m₃ : List Finding) (n₃ : ℕ) →
      n ≡ 0 → AddsFound first places lent n r m₁ n₁ → AddsFound second places m₁ n₁ r₁ m₂ n₂ → AddsFound third places m₂ n₂ r₂ m₃ n₃ →
      Written lent (found_below first places ++ (found_below second places ++ found_below third places)) m₃ n₃
  three_groups n r m₁ n₁ r₁ m₂ n₂ r₂ m₃ n₃ empty a b c =
      let f = found_below first places in
      let s = found_below second places in
      let t = found_below third places in
      let f-few = found_few first places in
      let s-few = found_few second places in
      let t-few = found_few third places in
      let none : Written lent [] lent n = record { fits = omega arith; front = refl; long = empty } in
      let e₁ = must_extend first places lent n r m₁ n₁ (omega arith) a in
      let w₁ = written_group lent [] f lent n m₁ n₁ none (omega arith) e₁ in
      let l₁ = written_length lent f m₁ n₁ w₁ in
      let e₂ = must_extend second places m₁ n₁ r₁ m₂ n₂ (omega (arith, w₁.long)) b in
      let w₂ = written_group lent f s m₁ n₁ m₂ n₂ w₁ (omega arith) e₂ in
      let l₂ = written_length lent (f ++ s) m₂ n₂ w₂ in
      let both = length-append f s in
      let e₃ = must_extend third places m₂ n₂ r₂ m₃ n₃ (omega (arith, w₂.long)) c in
      let w₃ = written_group lent (f ++ s) t m₂ n₂ m₃ n₃ w₂ (omega arith) e₃ in
      let W : List Finding → Type 0 = λ z. Written lent z m₃ n₃ in
      subst W (append_assoc f s t) w₃
