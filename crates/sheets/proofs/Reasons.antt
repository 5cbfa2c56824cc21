-- Why a sheet is refused.
use Rattle.std.proofs.Common.{◌≡◌, ℕ, ◌+◌, ◌<◌, ◌≤◌, true, false, not, ltb, List, take, is_some, Some, None, ap, inl, inr, subst, ⊎_elim, arith, length-take}
use Rattle.std.proofs.lemmas.List.{get_or-take, get_or_past}
use Rattle.std.proofs.lemmas.Bool.{cases_lt}
use Rattle.std.proofs.lemmas.Bool.Decides.{nat_tests}
use Rattle.refusals.specs.declared.Refusal.{Refusal}
use Rattle.refusals.specs.declared.Refusal.TheVariants.{RowsUnfit, BoardRowUnfit}
use Rattle.theory.specs.Sums.{sum_to}
use Rattle.theory.specs.Nets.{NetLaw}
use Rattle.theory.proofs.Decided.{some_none}
use Rattle.formats.specs.Checks.{fault}
use Rattle.formats.specs.Complete.{AreBytes}
use Rattle.formats.specs.Chained.{chained_end, head_refusal, chained_refusal}
use Rattle.formats.specs.Reasons.{ChainedHeadFits}
use Rattle.formats.proofs.ChainedLaw.{chained_lawful}
use Rattle.formats.proofs.ChainedReasons.{chained_reasons}
use Rattle.formats.proofs.NumberTests.{not_below, not_below_is, is_below, below_is}
use Rattle.formats.proofs.Faults.{fault_none, none_fault, fault_some, some_fault}
use Rattle.answers.specs.Answers.{resume_refusal}
use Rattle.answers.proofs.Options.{none_or, or_none, some_or, or_first, or_second}
use Rattle.answers.proofs.Promised.{promise}
use Rattle.sheets.specs.Parts.{sheet_end, net_file, net_of, start_of, tally_of, kind_of, target_in}
use Rattle.sheets.specs.Verdicts.{order_entries, net_refusal, kind_unknown as no_kind, unlawful, form_refusal, sitting_of, sheet_refusal}
use Rattle.sheets.specs.Reasons.{NetFits, judged_on, WellFormed, WhySheet, SheetReasons}
use Rattle.sheets.specs.Reasons.WhySheet.{head_wrong, rows_wrong, kind_unknown, start_unlawful, not_resumed}
use Rattle.sheets.proofs.Finding.{head_kept}

-- the front of bytes is bytes
pub front_bytes : (sheet : List ℕ) (n : ℕ) → AreBytes sheet → AreBytes (take n sheet)
front_bytes sheet n bytes i =
    ⊎_elim
    (λ (h : i < n). omega (arith, get_or-take n sheet i 0 h, bytes i))
    (λ (h : n ≤ i). omega (arith, get_or_past (take n sheet) i 0 (omega (arith, length-take n sheet))))
    (cases_lt i n)

known : (k : ℕ) → not (ltb k 2) ≡ false → k < 2
known k e = grind (arith, nat_tests)

is_known : (k : ℕ) → k < 2 → not (ltb k 2) ≡ false
is_known k h = grind (arith, nat_tests)

unknown : (k : ℕ) → not (ltb k 2) ≡ true → 2 ≤ k
unknown k e = grind (arith, nat_tests)

is_unknown : (k : ℕ) → 2 ≤ k → not (ltb k 2) ≡ true
is_unknown k h = grind (arith, nat_tests)

module _ (sheet : List ℕ) where
  -- where the head of the sheet is right, so is that of the net's own file
  own_head : ChainedHeadFits sheet (sheet_end sheet) → ChainedHeadFits (net_file sheet) (chained_end (net_file sheet))
  own_head h =
      let a = head_kept sheet 0 (omega arith) in
      let b = head_kept sheet 1 (omega arith) in
      let c = head_kept sheet 2 (omega arith) in
      let d = head_kept sheet 3 (omega arith) in
      let long = length-take (chained_end sheet) sheet in
      record {
        a_head = omega (arith, h.long, long);
        some_places = (omega (arith, a, h.some_places.0), omega (arith, a, h.some_places.1));
        few_steps = omega (arith, b, h.few_steps);
        few_arcs = omega (arith, c, d, h.few_arcs);
        long = omega (arith, h.long, long, b, c, d);
      }

  net_none : net_refusal sheet ≡ None → NetFits sheet
  net_none h =
      let a = none_or (head_refusal sheet (sheet_end sheet)) (chained_refusal (net_file sheet)) h in
      record {
        head = (chained_reasons.head_accepted sheet (sheet_end sheet)).0 a.0;
        rows = ((chained_reasons.accepted (net_file sheet)).0 a.1).1;
      }

  none_net : NetFits sheet → net_refusal sheet ≡ None
  none_net f =
      or_none (head_refusal sheet (sheet_end sheet)) (chained_refusal (net_file sheet))
      ((chained_reasons.head_accepted sheet (sheet_end sheet)).1 f.head)
      ((chained_reasons.accepted (net_file sheet)).1 (own_head f.head, f.rows))

  form_none : form_refusal sheet ≡ None → WellFormed sheet
  form_none h =
      let a = none_or (net_refusal sheet) _ h in
      let b = none_or (fault (no_kind sheet) RowsUnfit) (fault (unlawful (start_of sheet)) BoardRowUnfit) a.1 in
      record {
        net = net_none a.0;
        kind = known (kind_of sheet) (fault_none (no_kind sheet) RowsUnfit b.0);
        start = not_below 2147483647 (sum_to (start_of sheet) 64 + 1000000) (fault_none (unlawful (start_of sheet)) BoardRowUnfit b.1);
      }

  none_form : WellFormed sheet → form_refusal sheet ≡ None
  none_form f =
      or_none (net_refusal sheet) _ (none_net f.net)
      (or_none (fault (no_kind sheet) RowsUnfit) (fault (unlawful (start_of sheet)) BoardRowUnfit)
      (none_fault (no_kind sheet) RowsUnfit (is_known (kind_of sheet) f.kind))
      (none_fault (unlawful (start_of sheet)) BoardRowUnfit (not_below_is 2147483647 (sum_to (start_of sheet) 64 + 1000000) f.start)))

  lawful : AreBytes sheet → NetFits sheet → NetLaw (net_of sheet)
  lawful bytes f =
      chained_lawful (net_file sheet) (front_bytes sheet (chained_end sheet) bytes)
      (ap is_some ((chained_reasons.accepted (net_file sheet)).1 (own_head f.head, f.rows)))

  net_why : (e : Refusal) → net_refusal sheet ≡ Some e → WhySheet sheet e
  net_why e h = elim (some_or (head_refusal sheet (sheet_end sheet)) (chained_refusal (net_file sheet)) e h) [
    | inl a ↦ head_wrong e ((chained_reasons.head_refused sheet (sheet_end sheet) e).0 a)
    | inr (a, h) ↦
        let head = (chained_reasons.head_accepted sheet (sheet_end sheet)).0 a in
        elim ((chained_reasons.refused (net_file sheet) e).0 h) [
          | inl w ↦
              let some = (chained_reasons.head_refused (net_file sheet) (chained_end (net_file sheet)) e).1 w in
              let none = (chained_reasons.head_accepted (net_file sheet) (chained_end (net_file sheet))).1 (own_head head) in
              absurd (some_none e (let z : Some e ≡ None = cc in z))
          | inr (f, w) ↦ rows_wrong e head w
        ]
  ]

  form_why : (e : Refusal) → form_refusal sheet ≡ Some e → WhySheet sheet e
  form_why e h = elim (some_or (net_refusal sheet) _ e h) [
    | inl a ↦ net_why e a
    | inr (a, h) ↦
        let net = net_none a in
        elim (some_or (fault (no_kind sheet) RowsUnfit) (fault (unlawful (start_of sheet)) BoardRowUnfit) e h) [
          | inl b ↦
              let x = fault_some (no_kind sheet) RowsUnfit e b in
              subst (WhySheet sheet) x.1 (kind_unknown net (unknown (kind_of sheet) x.0))
          | inr (b, c) ↦
              let x = fault_some (unlawful (start_of sheet)) BoardRowUnfit e c in
              subst (WhySheet sheet) x.1
              (start_unlawful net (known (kind_of sheet) (fault_none (no_kind sheet) RowsUnfit b)) (is_below 2147483647 (sum_to (start_of sheet) 64 + 1000000) x.0))
        ]
  ]

  sheet_why : AreBytes sheet → (e : Refusal) → sheet_refusal sheet ≡ Some e → WhySheet sheet e
  sheet_why bytes e h = elim (some_or (form_refusal sheet) (resume_refusal (net_of sheet) (sitting_of sheet) (tally_of sheet) (target_in sheet) order_entries) e h) [
    | inl a ↦ form_why e a
    | inr (a, b) ↦
        let form = form_none a in
        let any = promise.in_any_state (net_of sheet) (lawful bytes form.net) (judged_on sheet) in
        not_resumed e form ((any.resume_refused_for (tally_of sheet) (target_in sheet) 4096 e).0 b)
  ]

  why_sheet : AreBytes sheet → (e : Refusal) → WhySheet sheet e → sheet_refusal sheet ≡ Some e
  why_sheet bytes e w = go w
    where
      go : {d : Refusal} → WhySheet sheet d → sheet_refusal sheet ≡ Some d
      go (head_wrong d w) = or_first (form_refusal sheet) _ d (or_first (net_refusal sheet) _ d (or_first (head_refusal sheet (sheet_end sheet)) _ d ((chained_reasons.head_refused sheet (sheet_end sheet) d).1 w)))
      go (rows_wrong d head w) =
          or_first (form_refusal sheet) _ d (or_first (net_refusal sheet) _ d
          (or_second (head_refusal sheet (sheet_end sheet)) _ d ((chained_reasons.head_accepted sheet (sheet_end sheet)).1 head)
          ((chained_reasons.refused (net_file sheet) d).1 (inr (own_head head, w)))))
      go (kind_unknown net k) =
          or_first (form_refusal sheet) _ RowsUnfit (or_second (net_refusal sheet) _ RowsUnfit (none_net net)
          (or_first (fault (no_kind sheet) RowsUnfit) _ RowsUnfit (some_fault (no_kind sheet) RowsUnfit (is_unknown (kind_of sheet) k))))
      go (start_unlawful net k s) =
          or_first (form_refusal sheet) _ BoardRowUnfit (or_second (net_refusal sheet) _ BoardRowUnfit (none_net net)
          (or_second (fault (no_kind sheet) RowsUnfit) _ BoardRowUnfit (none_fault (no_kind sheet) RowsUnfit (is_known (kind_of sheet) k))
          (some_fault (unlawful (start_of sheet)) BoardRowUnfit (below_is 2147483647 (sum_to (start_of sheet) 64 + 1000000) s))))
      go (not_resumed d form w) =
          let any = promise.in_any_state (net_of sheet) (lawful bytes form.net) (judged_on sheet) in
          or_second (form_refusal sheet) _ d (none_form form) ((any.resume_refused_for (tally_of sheet) (target_in sheet) 4096 d).1 w)

  pub sheet_reasons : AreBytes sheet → SheetReasons sheet
  sheet_reasons bytes = record {
    accepted = (
      λ h.
          let a = none_or (form_refusal sheet) (resume_refusal (net_of sheet) (sitting_of sheet) (tally_of sheet) (target_in sheet) order_entries) h in
          let form = form_none a.0 in
          let any = promise.in_any_state (net_of sheet) (lawful bytes form.net) (judged_on sheet) in
          let r = (any.resumes_exactly (tally_of sheet) (target_in sheet) 4096).0 a.1 in
          record { form = form; sizes = r.0; some_order = r.1 },
      λ f.
          let any = promise.in_any_state (net_of sheet) (lawful bytes f.form.net) (judged_on sheet) in
          or_none (form_refusal sheet) (resume_refusal (net_of sheet) (sitting_of sheet) (tally_of sheet) (target_in sheet) order_entries) (none_form f.form)
          ((any.resumes_exactly (tally_of sheet) (target_in sheet) 4096).1 (f.sizes, f.some_order)),
    );
    refused = λ e. (sheet_why bytes e, why_sheet bytes e);
  }
