-- The numbers of the answers of a key call and of the two questions (document 01, "Keys and their refusals"; document 02, No. 8, 9 and 11), and of the file's writer
-- (document 02, No. 1).
-- Assumes nothing.
use Rattle.std.specs.Prelude.{ℕ, Result, Ok, Err}
use Rattle.desk_answers.specs.declared.KeyRefusal.{KeyRefusal}
use Rattle.desk_answers.specs.declared.KeyRefusal.TheVariants as key
use Rattle.desk_answers.specs.declared.QuestionRefusal.{QuestionRefusal}
use Rattle.desk_answers.specs.declared.QuestionRefusal.TheVariants as question
use Rattle.desk_answers.specs.declared.FileRefusal.{FileRefusal}
use Rattle.desk_answers.specs.declared.FileRefusal.TheVariants as file

-- the numbers of "Keys and their refusals"; document 02, No. 8: "9, item owned by another bench, after 7 and before 8"
abbrev pub key_number : KeyRefusal → ℕ
key_number key.NoBench = 1
key_number key.Unsound = 2
key_number key.NoKey = 3
key_number key.LineFull = 4
key_number key.BadForm = 5
key_number key.UnknownName = 6
key_number key.WrongKind = 7
key_number key.Owned = 9
key_number key.NoRoom = 8

-- an accepted key is 0
abbrev pub answer_number : Result Unit KeyRefusal → ℕ
answer_number (Ok _) = 0
answer_number (Err refusal) = key_number refusal

-- the numbers of "Two questions": "2 if unsound, else 6 if not 1 to 10"; document 02, No. 9: "12, no such sheet, before 2"; No. 11: "21, no such
-- profile, after 12 and before 2", "Item numbers up to 18 amend 6", No. 12: up to 19; a question that is answered is 0
abbrev pub asked_number : QuestionRefusal → ℕ
asked_number question.NoSheet = 12
asked_number question.NoProfile = 21
asked_number question.Unsound = 2
asked_number question.NoItem = 6

-- "Refusals: 2 as for questions, then 11 bad block name, then 10 no room"; document 02, No. 9: "12, no such sheet, before 2"; a file that is written is 0
abbrev pub file_number : FileRefusal → ℕ
file_number file.NoSheet = 12
file_number file.Unsound = 2
file_number file.BadBlockName = 11
file_number file.NoRoom = 10
