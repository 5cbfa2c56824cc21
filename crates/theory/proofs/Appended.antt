-- One order after another: what is fired, where it ends, and the parts of a first order.
use Rattle.std.proofs.Common.{◌≡◌, ℕ, ◌+◌, ◌-◌, ◌⊎◌, List, [], ◌∷◌, ◌++◌, length, pos, ◌-ℤ◌, sym, refl, ◌∙◌, subst, inl, inr, arith}
use mathlib.Core.Path.{fun_ext}
use Rattle.std.proofs.lemmas.Int.{ints}
use Rattle.theory.specs.Firing.{Marking, one_at, fired, CanFire, after, times}
use Rattle.theory.specs.Tallies.{spent, gained, Realizes}
use Rattle.theory.specs.Orders.{Earlier}
use Rattle.theory.specs.Laws.{EndsAtFinalNumbers, ShortBelowZero, CanFireAppended, AfterAppended, TimesAppended, RealizesAppended, FinalNumbersAppended, FrontIsFirst, RestIsFirst}
use Rattle.theory.proofs.TallySums.{sum_both}
use Rattle.theory.proofs.Realized.{leaves, length_is}

-- FINAL NUMBERS

-- differences are the same where the cross sums are
pub same_difference : (a b c d : ℕ) → a + d ≡ c + b → pos a -ℤ pos b ≡ pos c -ℤ pos d
same_difference a b c d e = omega (arith, ints)

pub ends_at_final_numbers : EndsAtFinalNumbers
ends_at_final_numbers N m x order r p =
    let e = leaves N m x order r p in
    omega (arith, ints)

pub short_below_zero : ShortBelowZero
short_below_zero N m x p = (λ s. grind (arith, ints), λ s. grind (arith, ints))

-- APPENDING

pub can_fire_appended : CanFireAppended
can_fire_appended N m [] b = (λ h. (tt, h), λ h. h.1)
can_fire_appended N m (t ∷ ts) b =
    let ih = can_fire_appended N (fired N m t) ts b in (
      λ h. let k = ih.0 h.2 in ((h.0, h.1, k.0), k.1),
      λ h. (h.0.0, h.0.1, ih.1 (h.0.2, h.1)),
    )

pub after_appended : AfterAppended
after_appended N m [] b p = refl
after_appended N m (t ∷ ts) b p = after_appended N (fired N m t) ts b p

pub times_appended : TimesAppended
times_appended [] b t = omega arith
times_appended (u ∷ us) b t = omega (arith, times_appended us b t)

pub realizes_appended : RealizesAppended
realizes_appended N m x y a b r s = (
  (can_fire_appended N m a b).1 (r.0, s.0),
  λ t l. omega (arith, r.1 t l, s.1 t l, times_appended a b t),
)

pub final_numbers_appended : FinalNumbersAppended
final_numbers_appended N m x y a r p =
    same_difference (m p + gained N (λ t. x t + y t) p) (spent N (λ t. x t + y t) p)
    (after N m a p + gained N y p) (spent N y p)
    (omega (
      arith,
      leaves N m x a r p,
      sum_both x y (λ t. N.yields t p) N.steps,
      sum_both x y (λ t. one_at (N.input t) p) N.steps,
    ))

-- PARTS OF THE FIRST ORDER

abbrev NotLater : List ℕ → List ℕ → Type 0
NotLater a b = (a ≡ b) ⊎ Earlier a b

-- of orders that begin with parts of one length, the parts compare as the whole does
fronts_compare : (a o b c : List ℕ) → length a ≡ length o → NotLater (a ++ b) (o ++ c) → NotLater a o
fronts_compare [] [] b c e h = inl refl
fronts_compare [] (u ∷ us) b c e h = absurd (omega arith)
fronts_compare (t ∷ ts) [] b c e h = absurd (omega arith)
fronts_compare (t ∷ ts) (u ∷ us) b c e (inl s) =
    let k : ts ++ b ≡ us ++ c = cc in
    elim (fronts_compare ts us b c (omega arith) (inl k)) [
      | inl i ↦ inl (cc)
      | inr i ↦ inr (inr (cc, i))
    ]
fronts_compare (t ∷ ts) (u ∷ us) b c e (inr (inl l)) = inr (inl l)
fronts_compare (t ∷ ts) (u ∷ us) b c e (inr (inr (s, k))) =
    elim (fronts_compare ts us b c (omega arith) (inr k)) [
      | inl i ↦ inl (cc)
      | inr i ↦ inr (inr (s, i))
    ]

-- of orders that begin alike, the rests compare as the whole does
rests_compare : (a b c : List ℕ) → NotLater (a ++ b) (a ++ c) → NotLater b c
rests_compare [] b c h = h
rests_compare (t ∷ ts) b c (inl s) = rests_compare ts b c (inl (cc))
rests_compare (t ∷ ts) b c (inr (inl l)) = absurd (omega arith)
rests_compare (t ∷ ts) b c (inr (inr (s, k))) = rests_compare ts b c (inr k)

pub front_is_first : FrontIsFirst
front_is_first N m x a b f = record {
  realizes = mine;
  before_others = λ other r.
      fronts_compare a other b b (length_is N m (times a) a mine ∙ sym (length_is N m (times a) other r))
      (f.before_others (other ++ b) (exchanged other r));
}
  where
    parts : CanFire N m a × CanFire N (after N m a) b
    parts = (can_fire_appended N m a b).0 f.realizes.0

    mine : Realizes N m (times a) a
    mine = (parts.0, λ t l. refl)

    -- another order with the counts of the front ends where the front does, and so the rest can follow it
    exchanged : (other : List ℕ) → Realizes N m (times a) other → Realizes N m x (other ++ b)
    exchanged other r =
        let same : after N m a ≡ after N m other =
        fun_ext (λ p. omega (arith, leaves N m (times a) a mine p, leaves N m (times a) other r p)) in (
          (can_fire_appended N m other b).1 (r.0, subst (λ (k : Marking). CanFire N k b) same parts.1),
          λ t l. omega (arith, r.1 t l, f.realizes.1 t l, times_appended a b t, times_appended other b t),
        )

pub rest_is_first : RestIsFirst
rest_is_first N m x a b f = record {
  realizes = (parts.1, λ t l. omega (arith, f.realizes.1 t l, times_appended a b t));
  before_others = λ other r. rests_compare a b other (f.before_others (a ++ other) (completed other r));
}
  where
    parts : CanFire N m a × CanFire N (after N m a) b
    parts = (can_fire_appended N m a b).0 f.realizes.0

    completed : (other : List ℕ) → Realizes N (after N m a) (λ t. x t - times a t) other → Realizes N m x (a ++ other)
    completed other r = (
      (can_fire_appended N m a other).1 (parts.0, r.0),
      λ t l. omega (arith, r.1 t l, f.realizes.1 t l, times_appended a b t, times_appended a other t),
    )
