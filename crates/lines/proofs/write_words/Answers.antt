use Rattle.std.proofs.Common.{◌≡◌, ◌+◌, ◌-◌, ◌≤◌, [], ◌∷◌, ◌++◌, length, take, drop, set, Some, ap, ◌∙◌, arith, rules, length-append, length-drop, length-set, length-take}
use Rattle.lines.specs.Lines.{numbers, words}
use Rattle.lines.proofs.Putting.{puts_one, puts_both, puts_front, puts_all}
use Rattle.lines.proofs.Decimals.{words_long}
use Rattle.lines.proofs.write_words.Goals as goal

pub returns : goal.returns
returns c =
    let text = c.args.text.now in
    let word = c.args.word.now in
    let row = c.args.row.now in
    let line = words word row in
    let long = length text - c.in_ok-left.left + length word + 1 in
    let lent = take long text in
    let l₁ = c.copy_from_slice.new.self ++ drop (length word) lent in
    let l₂ = c.put_numbers-end.new.line in
    let end = c.put_numbers-end.result in
    let l₃ = set l₂ end 10 in
    let room : c.in_ok-left.left + length (numbers row) ≡ length text = (let some : c.room_after.result ≡ Some c.in_ok-left.left = search rules in rw some at c.room_after.ensures) in
    let is-long : long ≡ length line = omega (arith, words_long word row, room) in
    let fits : length line ≤ length text = omega (arith, words_long word row, room, c.if-left-word.false) in
    let same-length : length l₂ ≡ long =
    omega (arith, c.put_numbers-end.auto.line, length-append c.copy_from_slice.new.self (drop (length word) lent), ap length c.copy_from_slice.ensures.after, length-drop (length word) lent, length-take long text, is-long, fits, words_long word row) in
    let last = puts_one 10 l₂ end (end + 1) (omega (arith, same-length, c.put_numbers-end.ensures.ends, words_long word row)) (omega arith) in
    let all = puts_both word (numbers row ++ (10 ∷ [])) lent 0 l₁ (length word) l₃ (end + 1) (puts_front word lent c.copy_from_slice.new.self (drop (length word) lent) c.copy_from_slice.ensures.after)
    (puts_both (numbers row) (10 ∷ []) l₁ (length word) l₂ end l₃ (end + 1) c.put_numbers-end.ensures last) in
    let full : l₃ ≡ line = puts_all line lent l₃ (end + 1) all (length-set l₂ end 10 ∙ same-length ∙ is-long) in
    (fits, is-long, ap (λ z. z ++ drop long text) full ∙ ap (λ k. line ++ drop k text) is-long)
