-- A transcript: what was said to a list of calls on a new sitting, and to the resume with its counters on a second one.
use Rattle.std.specs.Prelude.{◌≡◌, ℕ, ◌+◌, ◌≤◌, List}
use Rattle.theory.specs.Nets.{NetMeaning}
use Rattle.theory.specs.Laws.{AgreeBelow}
use Rattle.theory.specs.Orders.{First}
use Rattle.answers.specs.States.{State, done_total, yields_asked}
use Rattle.answers.specs.Calls.{Call, Answer}
use Rattle.answers.specs.Calls.Answer.{order_written}
use Rattle.handovers.specs.HandedOver.{counters_of}
use Rattle.handovers.specs.Performed.{Kept, AllKept}

-- the second sitting has done what the first one did: an order with the first one's counts, the first such one from its
-- start, and it ends at the first one's marking with the first one's done row, the spare differing as it did
pub record ReplayKept (N : NetMeaning) (start other first second : State) (replay : Answer) : Type 0 where
  pub order : List ℕ
  pub written : replay ≡ order_written order
  pub is_first : First N other.counts first.done order
  pub same_marking : AgreeBelow N.places second.counts first.counts
  pub same_done : (t : ℕ) → second.done t ≡ first.done t
  pub spare : second.spare + start.spare ≡ first.spare + other.spare

-- what a transcript says of the calls, from two new sittings and memory of so many entries for the replay
pub record Transcribed (N : NetMeaning) (start other : State) (calls : List Call) (memory : ℕ)
    (said : List Answer) (first : State) (replay : Answer) (second : State) : Type 0 where
  -- the calls of the list, and no other
  pub calls_made : AllKept N start calls said first
  -- the resume with the first one's counters, and no other call
  pub replay_made : Kept N other (counters_of N first memory) replay second
  -- where the second board shows the first one's starting marking, and memory and spare suffice, the counters replay
  pub replayed : AgreeBelow N.places other.counts start.counts → done_total first ≤ memory →
      yields_asked N first.done ≤ other.spare → ReplayKept N start other first second replay
