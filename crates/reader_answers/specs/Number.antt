-- The numbers of what a part of a log gets (document 02, No. 10).
-- Assumes nothing.
use Rattle.std.specs.Prelude.{ℕ, Result, Ok, Err}
use Rattle.reader_answers.specs.declared.FeedRefusal.{FeedRefusal}
use Rattle.reader_answers.specs.declared.FeedRefusal.TheVariants.{Unsound, BadShape, ForeignOverwrite, EndInside}

-- "Refusals: 2 first ..; then 18 record shape, 19 foreign overwrite, 20 end inside a record"
abbrev pub refusal_number : FeedRefusal → ℕ
refusal_number Unsound = 2
refusal_number BadShape = 18
refusal_number ForeignOverwrite = 19
refusal_number EndInside = 20

-- and "any part without a refusal gets 0"
abbrev pub feed_number : {A : Type 0} → Result A FeedRefusal → ℕ
feed_number (Ok x) = 0
feed_number (Err e) = refusal_number e
