-- What the tests decide, and with it the theorem on which tallies can be done.
use Rattle.std.proofs.Common.{◌≡◌, ℕ, zero, suc, ◌+◌, ◌<◌, Bool, true, false, cond, not, ◌&&◌, ◌||◌, eqb, ltb, ◌⊎◌, Some, None, Decides, Option, sym, refl, ap, ◌∙◌, subst, inl, inr, arith}
use Rattle.std.specs.Option.{option_or}
use Rattle.std.proofs.lemmas.Bool.{cases_eq, cases_lt, cases_Bool, both_ways, and_parts, and_from}
use Rattle.std.proofs.lemmas.Bool.Decides.{Decides-and, Decides-or, Decides-not, Decides-ltb, Decides-eqb, Decides-like}
use Rattle.theory.specs.Nets.{NetMeaning, InputsInside}
use Rattle.theory.specs.Firing.{Marking, fired}
use Rattle.theory.specs.Tallies.{Tally, spent, gained, IsShort, InSubnet, IsReached, IsCutOff, NoPlaceShort, NoPlaceCutOff}
use Rattle.theory.specs.Tallies.IsReached.{through}
use Rattle.theory.specs.Orders.{less}
use Rattle.theory.specs.Tests.{any_below, all_below, least, is_short, in_subnet, is_reached, is_cut_off, no_place_short, no_place_cut_off, can_be_done, is_safe}
use Rattle.theory.specs.Laws.{DoneExactlyIf, SafeStepExists, ShortDecided, SubnetDecided, CutOffDecided, DoneDecided, SafeDecided, IsLeast, LeastFound, NoneFound}
use Rattle.theory.proofs.Realized.{Enough, InputsReached, realizes_enough, realizes_reached}
use Rattle.theory.proofs.SafeSteps.{doable, safe_step, keeps_safe}
use Rattle.theory.proofs.ReachRounds.{any_find, any_from, reached_decided}

-- TESTS BELOW A BOUND

pub decides_any : (b : ℕ → Bool) (P : ℕ → Type 0) (n : ℕ) → ((k : ℕ) → Decides (b k) (P k)) →
    Decides (any_below b n) ((k : ℕ) × (k < n) × P k)
decides_any b P n each = (
  λ h. let w = any_find b n h in (w.0, w.1, (each w.0).0 w.2),
  λ w. any_from b w.0 n w.1 ((each w.0).1 w.2),
)

pub decides_all : (b : ℕ → Bool) (P : ℕ → Type 0) (n : ℕ) → ((k : ℕ) → k < n → Decides (b k) (P k)) →
    Decides (all_below b n) ((k : ℕ) → k < n → P k)
decides_all b P zero each = (λ _ k l. absurd (omega arith), λ _. refl)
decides_all b P (suc n) each =
    let ih = decides_all b P n (λ k l. each k (omega arith)) in
    let here = each n (omega arith) in (
      λ h k l.
          let a = and_parts (b n) (all_below b n) h in
          elim (cases_eq n k) [
            | inl e ↦ subst P e (here.0 a.0)
            | inr d ↦ ih.0 a.1 k (omega arith)
          ],
      λ f. and_from (b n) (all_below b n) (here.1 (f n (omega arith))) (ih.1 (λ k l. f k (omega arith))),
    )

-- PLACES

pub short_decided : ShortDecided
short_decided N m x p = Decides-ltb (m p + gained N x p) (spent N x p)

pub subnet_decided : SubnetDecided
subnet_decided N x p =
    Decides-like (in_subnet N x p) (λ w. (w.0, w.1, w.2.0, w.2.1)) (λ w. (w.0, w.1, (w.2, w.3)))
    (decides_any (λ t. ltb 0 (x t) && (eqb (N.input t) p || ltb 0 (N.yields t p)))
    (λ t. (0 < x t) × ((N.input t ≡ p) ⊎ (0 < N.yields t p))) N.steps
    (λ t. Decides-and (ltb 0 (x t)) _ (Decides-ltb 0 (x t))
    (Decides-or (eqb (N.input t) p) (ltb 0 (N.yields t p)) (Decides-eqb (N.input t) p) (Decides-ltb 0 (N.yields t p)))))

pub cut_off_decided : CutOffDecided
cut_off_decided N inside m x p l =
    Decides-and (in_subnet N x p) (not (is_reached N m x p)) (subnet_decided N x p)
    (Decides-not (is_reached N m x p) (reached_decided N inside m x p l))

no_short_decided : (N : NetMeaning) (m : Marking) (x : Tally) → Decides (no_place_short N m x) (NoPlaceShort N m x)
no_short_decided N m x =
    decides_all (λ p. not (is_short N m x p)) (λ p. IsShort N m x p → ⊥) N.places
    (λ p l. Decides-not (is_short N m x p) (short_decided N m x p))

pub no_cut_off_decided : (N : NetMeaning) → InputsInside N → (m : Marking) (x : Tally) →
    Decides (no_place_cut_off N m x) (NoPlaceCutOff N m x)
no_cut_off_decided N inside m x =
    decides_all (λ p. not (is_cut_off N m x p)) (λ p. IsCutOff N m x p → ⊥) N.places
    (λ p l. Decides-not (is_cut_off N m x p) (cut_off_decided N inside m x p l))

-- THE TWO CONDITIONS, AND THEIR FORMS IN THE PROOFS

pub enough_from : (N : NetMeaning) (m : Marking) (x : Tally) → NoPlaceShort N m x → Enough N m x
enough_from N m x none p l =
    elim (cases_lt (m p + gained N x p) (spent N x p)) [ inl s ↦ absurd (none p l s) | inr h ↦ h ]

pub none_short_from : (N : NetMeaning) (m : Marking) (x : Tally) → Enough N m x → NoPlaceShort N m x
none_short_from N m x enough p l s = omega (arith, enough p l)

pub reached_from : (N : NetMeaning) → InputsInside N → (m : Marking) (x : Tally) → NoPlaceCutOff N m x → InputsReached N m x
reached_from N inside m x none t l h =
    let p : ℕ = N.input t in
    let d = reached_decided N inside m x p (inside t l) in
    elim (cases_Bool (is_reached N m x p)) [
      | inl e ↦ d.0 e
      | inr e ↦ absurd (none p (inside t l) ((t, l, h, inl refl), λ r. both_ways (is_reached N m x p) e (d.1 r)))
    ]

subnet_reached : (N : NetMeaning) (m : Marking) (x : Tally) → InputsReached N m x → (p : ℕ) → InSubnet N x p → IsReached N m x p
subnet_reached N m x c p (t, l, h, inl e) = subst (IsReached N m x) e (c t l h)
subnet_reached N m x c p (t, l, h, inr y) = through t l h (c t l h) y

pub none_cut_off_from : (N : NetMeaning) (m : Marking) (x : Tally) → InputsReached N m x → NoPlaceCutOff N m x
none_cut_off_from N m x c p l (sub, unreached) = unreached (subnet_reached N m x c p sub)

pub done_exactly_if : DoneExactlyIf
done_exactly_if N inside m x = (
  λ r. (
    none_short_from N m x (realizes_enough N m x r.0 r.1),
    none_cut_off_from N m x (realizes_reached N m x r.0 r.1),
  ),
  λ h. doable N inside m x (enough_from N m x h.0) (reached_from N inside m x h.1),
)

pub done_decided : DoneDecided
done_decided N inside m x =
    Decides-like (can_be_done N m x) (done_exactly_if N inside m x).1 (done_exactly_if N inside m x).0
    (Decides-and (no_place_short N m x) (no_place_cut_off N m x) (no_short_decided N m x) (no_cut_off_decided N inside m x))

-- STEPS

pub safe_step_exists : SafeStepExists
safe_step_exists N inside m x short cut t l h =
    let enough = enough_from N m x short in
    let s = safe_step N m x inside enough (reached_from N inside m x cut) t l h in
    (s.0, keeps_safe N inside m x enough s.0 s.1)

pub safe_decided : SafeDecided
safe_decided N inside m x short t =
    Decides-like (is_safe N m x t)
    (λ h. keeps_safe N inside m x (enough_from N m x short) t
    (h.0, h.1.0, h.1.1.0, reached_from N inside (fired N m t) (less x t) h.1.1.1))
    (λ h. (h.0, (h.1, (h.2, ((done_exactly_if N inside (fired N m t) (less x t)).0 h.3).1))))
    (Decides-and (ltb t N.steps) _ (Decides-ltb t N.steps)
    (Decides-and (ltb 0 (x t)) _ (Decides-ltb 0 (x t))
    (Decides-and (ltb 0 (m (N.input t))) _ (Decides-ltb 0 (m (N.input t)))
    (no_cut_off_decided N inside (fired N m t) (less x t)))))

-- THE LEAST NUMBER THAT PASSES A TEST

pub some_none : {A : Type 0} (a : A) → Some a ≡ None → ⊥
some_none a h = let z : ◌≡◌ {A = ℕ} 0 1 = cc in omega arith

none_below : (b : ℕ → Bool) (n : ℕ) → least b n ≡ None → (k : ℕ) → k < n → b k ≡ false
none_below b zero h k l = absurd (omega arith)
none_below b (suc n) h k l = go (none_below b n) (least b n) (b n) refl refl h
  where
    go : (least b n ≡ None → (i : ℕ) → i < n → b i ≡ false) → (o : Option ℕ) (c : Bool) → least b n ≡ o → b n ≡ c →
        option_or o (cond c (Some n) None) ≡ None → b k ≡ false
    go ih (Some j) c z e f = absurd (some_none j f)
    go ih None true z e f = absurd (some_none n f)
    go ih None false z e f =
        elim (cases_eq n k) [
          | inl s ↦ subst (λ (u : ℕ). b u ≡ false) s e
          | inr d ↦ ih z k (omega arith)
        ]

below_none : (b : ℕ → Bool) (n : ℕ) → ((k : ℕ) → k < n → b k ≡ false) → least b n ≡ None
below_none b zero h = refl
below_none b (suc n) h = go (least b n) (b n) (below_none b n (λ k l. h k (omega arith))) (h n (omega arith))
  where
    go : (o : Option ℕ) (c : Bool) → o ≡ None → c ≡ false → option_or o (cond c (Some n) None) ≡ None
    go (Some j) c z e = z
    go None true z e = absurd (both_ways true e refl)
    go None false z e = refl

pub none_found : NoneFound
none_found b n = (none_below b n, below_none b n)

some_least : (b : ℕ → Bool) (n k : ℕ) → least b n ≡ Some k → IsLeast b n k
some_least b zero k h = absurd (some_none k (sym h))
some_least b (suc n) k h = go (some_least b n k) (least b n) (b n) refl refl h
  where
    go : (least b n ≡ Some k → IsLeast b n k) → (o : Option ℕ) (c : Bool) → least b n ≡ o → b n ≡ c →
        option_or o (cond c (Some n) None) ≡ Some k → IsLeast b (suc n) k
    go ih (Some j) c z e f =
        let i = ih (z ∙ f) in
        record { inside = omega (arith, i.inside); passes = i.passes; least = i.least }
    go ih None true z e f =
        let s : n ≡ k = cc in
        record {
          inside = omega arith;
          passes = subst (λ (u : ℕ). b u ≡ true) s e;
          least = λ j l. none_below b n z j (omega arith);
        }
    go ih None false z e f = absurd (some_none k (sym f))

-- two least numbers are the same
least_same : (b : ℕ → Bool) (j k : ℕ) → b j ≡ true → ((i : ℕ) → i < j → b i ≡ false) → b k ≡ true →
    ((i : ℕ) → i < k → b i ≡ false) → j ≡ k
least_same b j k tj fj tk fk =
    elim (cases_lt j k) [
      | inl l ↦ absurd (both_ways (b j) (fk j l) tj)
      | inr h ↦
          elim (cases_lt k j) [
            | inl l ↦ absurd (both_ways (b k) (fj k l) tk)
            | inr g ↦ omega arith
          ]
    ]

least_some : (b : ℕ → Bool) (n k : ℕ) → IsLeast b n k → least b n ≡ Some k
least_some b n k i = go (least b n) refl
  where
    go : (o : Option ℕ) → least b n ≡ o → least b n ≡ Some k
    go None z = absurd (both_ways (b k) (none_below b n z k i.inside) i.passes)
    go (Some j) z =
        let f = some_least b n j z in
        z ∙ ap Some (least_same b j k f.passes f.least i.passes i.least)

pub least_found : LeastFound
least_found b n k = (some_least b n k, least_some b n k)
