-- Items that are found at rising numbers, added to a list.
use Rattle.std.proofs.Common.{◌≡◌, ℕ, zero, suc, ◌+◌, ◌≤◌, List, ◌++◌, length, take, drop, Some, None, Option, sym, ap, ◌∙◌, subst, append_assoc, add-one, arith, length-append, length-take}
use Rattle.std.specs.Option.{option_to_list}
use Rattle.std.proofs.lemmas.List.{take-append-drop}
use Rattle.theory.specs.Rows.{found_below}
use Rattle.bounded_list.specs.Lists.{Extended}
use Rattle.bounded_list.specs.declared.BoundedList.{BoundedList}
use Rattle.bounded_list.proofs.Written.{Written}

pub found_more : {T : Type 0} (at : ℕ → Option T) (n : ℕ) → found_below at (n + 1) ≡ found_below at n ++ option_to_list (at n)
found_more at n = ap (found_below at) (add-one n)

-- no more than one for each number
pub found_few : {T : Type 0} (at : ℕ → Option T) (n : ℕ) → length (found_below at n) ≤ n
found_few at zero = omega arith
found_few at (suc n) =
    omega (arith, length-append (found_below at n) (option_to_list (at n)), found_few at n, one_or_none (at n))
  where
    one_or_none : {T : Type 0} (o : Option T) → length (option_to_list o) ≤ 1
    one_or_none None = omega arith
    one_or_none (Some x) = omega arith

-- one number more
pub front_more : {T : Type 0} (front : List T) (at : ℕ → Option T) (n : ℕ) (o : Option T) → o ≡ at n → (front ++ found_below at n) ++ option_to_list o ≡ front ++ found_below at (n + 1)
front_more front at n o e =
    append_assoc front (found_below at n) (option_to_list o)
    ∙ ap (λ z. front ++ (found_below at n ++ option_to_list z)) e
    ∙ ap (λ z. front ++ z) (sym (found_more at n))

-- the items of a list are those at the front of its memory
pub written_front : {T : Type 0} (memory : List T) (n : ℕ) → n ≤ length memory → Written memory (take n memory) memory n
written_front memory n h = record {
  fits = omega (arith, length-take n memory);
  front = sym (take-append-drop n memory) ∙ ap (λ z. take n memory ++ drop z memory) same;
  long = same;
}
  where
    same : n ≡ length (take n memory)
    same = omega (arith, length-take n memory)

-- a list that has changed to an equal one
pub written_at : {T : Type 0} (lent items all : List T) (a b : BoundedList T) → a ≡ b → items ≡ all → Written lent items b.memory.now b.len → Written lent all a.memory.now a.len
written_at {T = T} lent items all a b e f w =
    let P : BoundedList T → Type 0 = λ l. Written lent all l.memory.now l.len in
    let Q : List T → Type 0 = λ z. Written lent z b.memory.now b.len in
    subst P (sym e) (subst Q f w)

pub extended : {T : Type 0} (items before : List T) (n : ℕ) (after : List T) (n' : ℕ) → n ≤ length before → Written before (take n before ++ items) after n' → Extended items before n after n'
extended items before n after n' h w =
    let long : length (take n before ++ items) ≡ n + length items = omega (arith, length-append (take n before) items, length-take n before) in
    record {
      memory = w.front ∙ ap (λ z. (take n before ++ items) ++ drop z before) long ∙ append_assoc (take n before) items (drop (n + length items) before);
      len = w.long ∙ long;
    }
