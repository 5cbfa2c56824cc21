-- Each refusal's number, what its detail names, and its words.
use Rattle.std.specs.Prelude.{ℕ, List, ◌++◌, codes, decimal}
use Rattle.refusals.specs.declared.Refusal.{Refusal}
use Rattle.refusals.specs.declared.Refusal.TheVariants.{WrongLength, PlacesOutOfRange, TooManyStepsOrArcs, StepUnfit}
use Rattle.refusals.specs.declared.Refusal.TheVariants.{ArcUnfit, StepWithoutYield, RowsUnfit, DoneLimit}
use Rattle.refusals.specs.declared.Refusal.TheVariants.{OrderMemoryShort, SpareShort, Short, CutOff, Missed}
use Rattle.refusals.specs.declared.Refusal.TheVariants.{NoSuchStep, InputEmpty, NoSuchPlace, PlaceEmpty}
use Rattle.refusals.specs.declared.Refusal.TheVariants.{PutAboveSpare, BoardRowUnfit, NotARenaming, ListFull}
use Rattle.refusals.specs.declared.Refusal.TheVariants.{TextMemoryShort}

-- the number that stands for a refusal
abbrev pub number_of : Refusal → ℕ
number_of WrongLength = 1
number_of PlacesOutOfRange = 2
number_of TooManyStepsOrArcs = 3
number_of (StepUnfit step) = 4
number_of (ArcUnfit arc) = 5
number_of (StepWithoutYield step) = 6
number_of RowsUnfit = 7
number_of DoneLimit = 8
number_of OrderMemoryShort = 9
number_of SpareShort = 10
number_of (Short place) = 11
number_of (CutOff place) = 12
number_of (Missed place) = 13
number_of NoSuchStep = 14
number_of (InputEmpty place) = 15
number_of NoSuchPlace = 16
number_of (PlaceEmpty place) = 17
number_of (PutAboveSpare place) = 18
number_of BoardRowUnfit = 19
number_of NotARenaming = 20
number_of ListFull = 21
number_of TextMemoryShort = 22

-- the step, arc or place that a refusal names, 0 where it names none
abbrev pub detail_of : Refusal → ℕ
detail_of WrongLength = 0
detail_of PlacesOutOfRange = 0
detail_of TooManyStepsOrArcs = 0
detail_of (StepUnfit step) = step
detail_of (ArcUnfit arc) = arc
detail_of (StepWithoutYield step) = step
detail_of RowsUnfit = 0
detail_of DoneLimit = 0
detail_of OrderMemoryShort = 0
detail_of SpareShort = 0
detail_of (Short place) = place
detail_of (CutOff place) = place
detail_of (Missed place) = place
detail_of NoSuchStep = 0
detail_of (InputEmpty place) = place
detail_of NoSuchPlace = 0
detail_of (PlaceEmpty place) = place
detail_of (PutAboveSpare place) = place
detail_of BoardRowUnfit = 0
detail_of NotARenaming = 0
detail_of ListFull = 0
detail_of TextMemoryShort = 0

-- what is wrong, in words
abbrev pub words_of : Refusal → List ℕ
words_of WrongLength = codes "the bytes are too few for a head, or not as many as it says"
words_of PlacesOutOfRange = codes "the number of places is not 1 to 64"
words_of TooManyStepsOrArcs = codes "there are more than 128 steps or more than 1023 arcs"
words_of (StepUnfit step) = codes "a step's input or first arc is outside the net"
words_of (ArcUnfit arc) = codes "an arc's place, weight or next arc is unfit"
words_of (StepWithoutYield step) = codes "a step yields nothing"
words_of RowsUnfit = codes "a tally or target row has the wrong length, or the kind is unknown"
words_of DoneLimit = codes "more than 65535 steps would be done"
words_of OrderMemoryShort = codes "the order memory is shorter than the order"
words_of SpareShort = codes "spare is less than the yields"
words_of (Short place) = codes "a place is short"
words_of (CutOff place) = codes "a place is cut off"
words_of (Missed place) = codes "a place misses the target"
words_of NoSuchStep = codes "the net has no such step"
words_of (InputEmpty place) = codes "the step's input place is empty"
words_of NoSuchPlace = codes "the place is above 63"
words_of (PlaceEmpty place) = codes "the place is empty"
words_of (PutAboveSpare place) = codes "the put is above spare"
words_of BoardRowUnfit = codes "the board's row is unfit"
words_of NotARenaming = codes "the row is no renaming of the 64 places"
words_of ListFull = codes "the list is full, or the findings memory too short"
words_of TextMemoryShort = codes "the text memory is too short for the line"

-- what is printed of a refusal
abbrev pub shown_as : Refusal → List ℕ
shown_as e = codes "refusal " ++ (decimal (number_of e)
    ++ (codes " at " ++ (decimal (detail_of e) ++ (codes ": " ++ words_of e))))
