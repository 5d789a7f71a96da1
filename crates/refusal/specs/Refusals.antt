-- The table of refusals: the number of each case, and the values told with it.
use Rattle.std.specs.Prelude.{ℕ, List, [], ◌∷◌}
use Rattle.refusal.specs.declared.Refusal.{Refusal}
use Rattle.refusal.specs.declared.Refusal.TheVariants.{NotADigit, WrongCount, CheckDiffers, WrongLength}
use Rattle.refusal.specs.declared.Told.{Told}
use Rattle.refusal.specs.declared.Told.TheVariants.{Nothing, One, Two}

-- the number of a refusal
abbrev pub number_of : Refusal → ℕ
number_of (NotADigit index) = 1
number_of (WrongCount count) = 2
number_of CheckDiffers = 3
number_of (WrongLength length layers) = 12

-- the values told with it
abbrev pub told_of : Refusal → List ℕ
told_of (NotADigit index) = index ∷ []
told_of (WrongCount count) = count ∷ []
told_of CheckDiffers = []
told_of (WrongLength length layers) = length ∷ layers ∷ []

-- the list that a `Told` stands for
abbrev pub values : Told → List ℕ
values Nothing = []
values (One value) = value ∷ []
values (Two first second) = first ∷ second ∷ []
