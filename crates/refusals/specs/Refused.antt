-- The number of each refusal in document 01's table, and the verdict that a result of the code stands for.
-- Assumes nothing.
use Rattle.std.specs.Prelude.{ℕ, Result, Ok, Err}
use Rattle.lists.specs.Check.{Verdict, accepted, refused}
use Rattle.refusals.specs.declared.Refusal.{Refusal}
use Rattle.refusals.specs.declared.Refusal.TheVariants.{KeyShort, KeyModulus, KeyLimits, KeyLength, KeyEntry, InputLength, OpenedList, SecretEntry, SecretImage, HiddenList, Room, Header, RepliesLength, RepliesNumber, OutputSum, Omega, HGamma, HPi, HPsi, FirstRun, SecondRun, FrontsDiffer, HiddenEqual}

abbrev pub number : Refusal → ℕ
number KeyShort = 1
number KeyModulus = 2
number KeyLimits = 3
number KeyLength = 4
number KeyEntry = 5
number InputLength = 6
number OpenedList = 7
number SecretEntry = 8
number SecretImage = 9
number HiddenList = 10
number Room = 11
number Header = 12
number RepliesLength = 13
number RepliesNumber = 14
number OutputSum = 15
number Omega = 16
number HGamma = 17
number HPi = 18
number HPsi = 19
number FirstRun = 20
number SecondRun = 21
number FrontsDiffer = 22
number HiddenEqual = 23

-- the verdict of a result, whatever it holds where it is good
abbrev pub verdict_of : {A : Type 0} → Result A Refusal → Verdict
verdict_of (Ok a) = accepted
verdict_of (Err r) = refused (number r)
