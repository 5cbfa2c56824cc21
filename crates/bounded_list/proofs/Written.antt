-- Elements written from the front of lent memory, one at a time.
use Rattle.std.proofs.Common.{◌≡◌, ℕ, ◌+◌, ◌<◌, ◌≤◌, List, [], ◌∷◌, ◌++◌, length, get_or, drop, set, Ok, Err, Result, sym, refl, ap, ◌∙◌, append_assoc, arith, length-append, length-drop}
use Rattle.std.proofs.lemmas.List.{set_at, drop_more}
use Rattle.refusals.specs.declared.Refusal.{Refusal}
use Rattle.bounded_list.specs.Lists.{Adds, Added}

-- the list has these elements, and behind them the memory is as it was lent
pub record Written {T : Type 0} (lent items memory : List T) (len : ℕ) : Type 0 where
  pub fits : length items ≤ length lent
  pub front : memory ≡ items ++ drop (length items) lent
  pub long : len ≡ length items

pub written_none : {T : Type 0} (lent : List T) → Written lent [] lent 0
written_none lent = record { fits = omega arith; front = refl; long = refl }

-- where there is room, an add is accepted
pub added : {X T : Type 0} (x : T) (m : List T) (n : ℕ) (r : Result X Refusal) (m' : List T) (n' : ℕ) → n < length m → Adds x m n r m' n' → Added x m n m' n'
added x m n (Ok u) m' n' h a = a
added x m n (Err e) m' n' h a = absurd (omega (arith, a.full))

-- memory that is written keeps its length
pub written_length : {T : Type 0} (lent items memory : List T) (len : ℕ) → Written lent items memory len → length memory ≡ length lent
written_length lent items memory len w =
    ap length w.front ∙ length-append items (drop (length items) lent) ∙ omega (arith, length-drop (length items) lent, w.fits)

-- one more
pub written_more :
    {X T : Type 0} (x : T) (lent items m : List T) (n : ℕ) (r : Result X Refusal) (m' : List T) (n' : ℕ) →
    Written lent items m n → length items < length lent → Adds x m n r m' n' → Written lent (items ++ (x ∷ [])) m' n'
written_more x lent items m n r m' n' w room a =
    let k = length items in
    let b = added x m n r m' n' (omega (arith, w.long, written_length lent items m n w)) a in
    let long : length (items ++ (x ∷ [])) ≡ k + 1 = length-append items (x ∷ []) in
    record {
      fits = omega (arith, long);
      front =
          b.memory
          ∙ ap (λ z. set z n x) (w.front ∙ ap (λ z. items ++ z) (drop_more lent k x room))
          ∙ set_at items (get_or lent k x) (drop (k + 1) lent) x n (sym w.long)
          ∙ sym (append_assoc items (x ∷ []) (drop (k + 1) lent))
          ∙ ap (λ z. (items ++ (x ∷ [])) ++ drop z lent) (sym long);
      long = omega (arith, b.len, w.long, long);
    }
