-- Tests that compute: which places are short, reached and cut off, which steps are safe; and the first order.
use Rattle.std.specs.Prelude.{ℕ, zero, suc, ◌+◌, Bool, true, false, if◌then◌else◌, not, ◌&&◌}
use Rattle.std.specs.Prelude.{◌||◌, List, [], ◌∷◌, Some, None, Option, ◌==◌, nat_lt}
use Rattle.std.specs.Option.{option_or}
use Rattle.theory.specs.Nets.{NetMeaning}
use Rattle.theory.specs.Firing.{Marking, fired}
use Rattle.theory.specs.Tallies.{Tally, spent, gained, steps_asked}
use Rattle.theory.specs.Orders.{less}

-- some number below n passes the test
abbrev pub any_below : (ℕ → Bool) → ℕ → Bool
any_below b zero = false
any_below b (suc n) = b n || any_below b n

-- every number below n passes the test
abbrev pub all_below : (ℕ → Bool) → ℕ → Bool
all_below b zero = true
all_below b (suc n) = b n && all_below b n

-- the least number below n that passes the test
abbrev pub least : (ℕ → Bool) → ℕ → Option ℕ
least b zero = None
least b (suc n) = option_or (least b n) (if b n then Some n else None)

-- the place p is short
abbrev pub is_short : NetMeaning → Marking → Tally → ℕ → Bool
is_short N m x p = nat_lt (m p + gained N x p) (spent N x p)

-- p is a place of the tally's subnet
abbrev pub in_subnet : NetMeaning → Tally → ℕ → Bool
in_subnet N x p = any_below (λ t. nat_lt 0 (x t) && (N.input t == p || nat_lt 0 (N.yields t p))) N.steps

-- there is a path to p from a marked place, of at most so many steps of the tally
abbrev pub reach : NetMeaning → Marking → Tally → ℕ → ℕ → Bool
reach N m x zero p = nat_lt 0 (m p)
reach N m x (suc k) p =
    reach N m x k p || any_below (λ t. nat_lt 0 (x t)
    && (nat_lt 0 (N.yields t p) && reach N m x k (N.input t))) N.steps

-- p is reached: no path need be tried that has more steps than the net has places
abbrev pub is_reached : NetMeaning → Marking → Tally → ℕ → Bool
is_reached N m x p = reach N m x N.places p

-- p is cut off
abbrev pub is_cut_off : NetMeaning → Marking → Tally → ℕ → Bool
is_cut_off N m x p = in_subnet N x p && not (is_reached N m x p)

-- no place is short
abbrev pub no_place_short : NetMeaning → Marking → Tally → Bool
no_place_short N m x = all_below (λ p. not (is_short N m x p)) N.places

-- no place is cut off
abbrev pub no_place_cut_off : NetMeaning → Marking → Tally → Bool
no_place_cut_off N m x = all_below (λ p. not (is_cut_off N m x p)) N.places

-- the tally can be done
abbrev pub can_be_done : NetMeaning → Marking → Tally → Bool
can_be_done N m x = no_place_short N m x && no_place_cut_off N m x

-- t is safe, where no place is short: firing changes no final number, so only cut-off places are looked for
abbrev pub is_safe : NetMeaning → Marking → Tally → ℕ → Bool
is_safe N m x t =
    nat_lt t N.steps && (nat_lt 0 (x t) && (nat_lt 0 (m (N.input t)) && no_place_cut_off N (fired N m t) (less x t)))

-- the step that was found, with the order that follows it
abbrev pub followed : Option ℕ → (ℕ → List ℕ) → List ℕ
followed None rest = []
followed (Some t) rest = t ∷ rest t

-- the next n steps of the first order, or as many as are left: each is the least safe one
abbrev pub first_steps : NetMeaning → Marking → Tally → ℕ → List ℕ
first_steps N m x zero = []
first_steps N m x (suc n) = followed (least (is_safe N m x) N.steps) (λ t. first_steps N (fired N m t) (less x t) n)

-- the first order of a tally that can be done
abbrev pub first_order : NetMeaning → Marking → Tally → List ℕ
first_order N m x = first_steps N m x (steps_asked N x)
