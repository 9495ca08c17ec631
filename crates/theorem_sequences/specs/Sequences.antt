-- Demand 3 (document 01, "Sequences of calls"): the single claim about every sequence of key calls, Report and Who, from a fresh desk and a log of any
-- length and content. `Sequences log cs` is the claim about the sequence cs; that it holds is `demand-3` (proofs/Demand3.antt) for
-- any rows, and `desk-sequences` (proofs/Desk.antt) for those of the documents. The desk is read in
-- specs/Calls.antt; in specs/ of theorem_work the gathered order, Gather.antt, and what was typed and entered, "the work", Work.antt.
-- Document 02, No. 9: "Demand 3 holds over both sheets, with an item's last entry, an entry's number and the count taken among its own sheet's benches": of the
-- entries of all benches, those of a sheet's benches are `entries_of sheet`. The log is shared, so its records are those of all, in order.
--
-- What it shuts out, and by which part:
-- - a desk that refuses everything or stays idle: `table`, by which a key is refused exactly when a refusal of document 01's table applies, and `lines`, `items`
--   and `used_log`, since every accepted key and entry is then on the desk and in the log;
-- - one report for all sheets: `reports`, with the rows of the sheet that the entries before the question make, those of the benches of the sheet that is asked;
-- - a desk that stores only its first entry: `items`, which asks for the last entry that names an item, and `count`;
-- - an invented entry number, or one that counts the other sheet's entries: `items` and `tells`, where a number is how many entries of the sheet there are up
--   to that one, and `entries`, by which these are the Enters to which the desk gave 0;
-- - a number of entries that stays at 1, is another item's, or counts refused Enters: `times` and `logged`, where it is how many entries name the item, and how
--   many records of the used log do;
-- - keys of benches that run together: `gathered_answers` and `gathered_state`, by which a bench's answers do not depend on the keys between its own, and
--   `own_keys`, by which what a bench has typed, and with `entry` the line of each of its entries, is of its own keys and no others;
-- - an entry under another bench's number, as of the first to type after a refused Enter: `entry`, `used_log` for its record, and `who_next` for the
--   child who asks whose entry it is; specs/Owner.antt says the three in one sentence;
-- - an item overwritten by a bench that does not own it, or an owner who is refused (document 02, No. 8): `table`, by which 9 is given exactly when the entries
--   so far of the bench's own sheet give the item to another bench; theorem_work/specs/Owning.antt says whose an item is;
-- - a sheet that the other camp's benches fill, or whose count, owners or lines they share: all of these, and specs/Camps.antt in one sentence.
-- Assumes nothing.
use Rattle.std.specs.Prelude.{ℕ, ◌≤◌, ◌<◌, ◌≡◌, true, List, [], ◌∷◌, ◌++◌, map, leb, length, take, drop}
use Rattle.line_items.specs.Items.{item_count}
use Rattle.desk_state.specs.Lines.{line_of}
use Rattle.desk_state.specs.Sheets.{item_at}
use Rattle.desk_state.specs.Desks.{sheet_count, sheet_at}
use Rattle.rows.specs.Rows.{profile_count}
use Rattle.desk_soundness.specs.Sound.{sound_desk}
use Rattle.desk_soundness.specs.SoundLog.{log_most, sound_log}
use Rattle.desk_state.specs.declared.sheet.Sheet.{Sheet}
use Rattle.desk_questions.specs.Who.{nobody}
use Rattle.theorem_work.specs.Calls.{Call, key, ask, report, who, Reply, keyed, reported, told, answered, final}
use Rattle.theorem_work.specs.Gather.{own, gather, gather_answered, Regrouped}
use Rattle.theorem_work.specs.Work.{Entry, Work, no_work, typed_by, records_of, entries_of, times_of, last_of, sheet_of, who_last, work_step}
use Rattle.theorem_work.specs.WorkTable.{work_table, FromTable}
use Rattle.theorem_work.specs.Logged.{records_naming}
use Rattle.theorem_work.specs.Entered.{Entered, entered_first, entered_by, text_after_calls}
use Rattle.theorem_sequences.specs.Calls.{State, fresh_state, step}

module _ {Rows : Type 0} (rows_of : ℕ → Sheet → Rows) (no_rows : Rows) where
  -- the desk: each call with its answer, and what a sequence leaves
  abbrev pub desk_answers : List ℕ → List Call → List (Call × Reply Rows)
  desk_answers log cs = answered (step rows_of no_rows) (fresh_state log) cs

  abbrev pub state_after : List ℕ → List Call → State
  state_after log cs = final (step rows_of no_rows) (fresh_state log) cs

  -- the answer of a call that comes after a sequence
  abbrev pub answer_after : List ℕ → List Call → Call → Reply Rows
  answer_after log cs c = (step rows_of no_rows c (state_after log cs)).0

  -- the work: each call with its answer, and what a sequence leaves
  abbrev pub work_answers : List ℕ → List Call → List (Call × Reply Rows)
  work_answers log cs = answered (work_step rows_of no_rows (length log)) no_work cs

  abbrev pub work_after : List ℕ → List Call → Work
  work_after log cs = final (work_step rows_of no_rows (length log)) no_work cs

  pub record Sequences (log : List ℕ) (cs : List Call) : Type 0 where
    -- `gather cs` is the sequence with each bench's keys moved directly before its next Enter; "Keys moved to one place keep the order they had"
    pub regrouped : Regrouped cs (gather cs)
    -- and no other sequence is that
    pub one_regrouping : (ds : List Call) → Regrouped cs ds → ds ≡ gather cs
    -- between the two, "Equal are each call's whole answer ..
    pub gathered_answers : desk_answers log (gather cs) ≡ gather_answered (desk_answers log cs)
    -- .. and, at the end, the whole desk, the used number and every byte of the log"
    pub gathered_state : state_after log (gather cs) ≡ state_after log cs
    -- "A key's answer is taken from the table above, with typed for the line, the entries so far for sheet and count, and their records for the used log",
    -- wherever the key stands
    pub table : (before after : List Call) (bench byte : ℕ) → cs ≡ before ++ (key bench byte ∷ after)
        → FromTable (work_table (length log) (work_after log before) bench byte) (answer_after log before (key bench byte))
    -- "The desk gives the same answers" as the work
    pub answers : desk_answers log cs ≡ work_answers log cs
    -- each bench's line is what it has typed
    pub lines : (state_after log cs).desk.lines ≡ map line_of (work_after log cs).typed
    -- of its own keys and no others: wherever one looks, what a bench has typed comes of that bench's calls and their answers alone
    pub own_keys : (before after : List Call) (bench : ℕ) → cs ≡ before ++ after
        → typed_by (work_after log before) bench ≡ text_after_calls [] (own (λ p. p.0) bench (desk_answers log before))
    -- "An Enter with answer 0 is an accepted entry .. Its line, name and value, is what its bench had typed", wherever it stands in the sequence
    pub entry : (before after : List Call) (bench : ℕ) → cs ≡ before ++ (key bench 10 ∷ after) → answer_after log before (key bench 10) ≡ keyed 0
        → Entered bench (work_after log before) (work_after log (before ++ (key bench 10 ∷ [])))
    -- and nothing else is one
    pub no_entry : (before after : List Call) (c : Call) → cs ≡ before ++ (c ∷ after) → entered_first c (answer_after log before c) [] ≡ []
        → (work_after log (before ++ (c ∷ []))).entries ≡ (work_after log before).entries
    -- so that the entries are, bench by bench, the Enters to which the desk gave 0
    pub entries : map (λ (e : Entry). e.bench) (work_after log cs).entries ≡ entered_by [] (desk_answers log cs)
    -- "After every sequence the used log is the accepted entries' records in order", and the rest of the log is as it was
    pub used_log : take (state_after log cs).used (state_after log cs).log ≡ records_of (work_after log cs).entries
    pub used : (state_after log cs).used ≡ length (records_of (work_after log cs).entries)
    pub rest_of_log : drop (state_after log cs).used (state_after log cs).log ≡ drop (state_after log cs).used log
    pub log_length : length (state_after log cs).log ≡ length log
    -- of each sheet, "the count is their number", of its own benches' entries
    pub count : (sheet : ℕ) → sheet < sheet_count → (sheet_at (state_after log cs).desk sheet).count ≡ length (entries_of sheet (work_after log cs).entries)
    -- "each item holds value, bench and number of the last one that names it, or is empty"
    pub items : (sheet k : ℕ) → sheet < sheet_count → 1 ≤ k → k ≤ item_count
        → item_at (sheet_at (state_after log cs).desk sheet) k ≡ last_of (entries_of sheet (work_after log cs).entries) k
    -- document 02, No. 7: "Each filled item shall hold the number of accepted entries that named it"
    pub times : (sheet k : ℕ) → sheet < sheet_count → 1 ≤ k → k ≤ item_count
        → (item_at (sheet_at (state_after log cs).desk sheet) k).times ≡ times_of (entries_of sheet (work_after log cs).entries) k
    -- and that is, "on any desk grown from a fresh one, its records in the used log"; No. 9: "No. 7 counts its own sheet's records"
    pub logged : (sheet k : ℕ) → sheet < sheet_count → 1 ≤ k → k ≤ item_count
        → (item_at (sheet_at (state_after log cs).desk sheet) k).times ≡ records_naming sheet k (take (state_after log cs).used (state_after log cs).log)
    pub all_sheets : length (state_after log cs).desk.sheets ≡ sheet_count
    pub all_items : (sheet : ℕ) → sheet < sheet_count → length (sheet_at (state_after log cs).desk sheet).items ≡ item_count
    -- the desk is sound, and sound with its log but for the log's length: what the table of the work tests is all that can give 2
    pub sound : sound_desk (state_after log cs).desk ≡ true
    pub log_sound : sound_log (state_after log cs).desk (length (state_after log cs).log) (state_after log cs).used ≡ leb (length log) log_most
    -- "Report and Who, when not refused, answer by the entries before them", wherever they stand; neither is ever refused with 2
    pub reports : (before after : List Call) (sheet profile : ℕ) → cs ≡ before ++ (ask (report sheet profile) ∷ after) → sheet < sheet_count → profile < profile_count
        → answer_after log before (ask (report sheet profile)) ≡ reported 0 (rows_of profile (sheet_of (entries_of sheet (work_after log before).entries)))
    pub tells : (before after : List Call) (sheet item : ℕ) → cs ≡ before ++ (ask (who sheet item) ∷ after) → sheet < sheet_count
        → answer_after log before (ask (who sheet item)) ≡ told (who_last (entries_of sheet (work_after log before).entries) item)
    -- document 02, No. 9: "12, no such sheet, before 2, with the report as with 2"
    pub no_report : (before after : List Call) (sheet profile : ℕ) → cs ≡ before ++ (ask (report sheet profile) ∷ after) → sheet_count ≤ sheet
        → answer_after log before (ask (report sheet profile)) ≡ reported 12 no_rows
    -- No. 11: "21, no such profile, after 12 and before 2; with 21 too the report is as with 2"
    pub no_profile : (before after : List Call) (sheet profile : ℕ) → cs ≡ before ++ (ask (report sheet profile) ∷ after) → sheet < sheet_count → profile_count ≤ profile
        → answer_after log before (ask (report sheet profile)) ≡ reported 21 no_rows
    pub no_tell : (before after : List Call) (sheet item : ℕ) → cs ≡ before ++ (ask (who sheet item) ∷ after) → sheet_count ≤ sheet
        → answer_after log before (ask (who sheet item)) ≡ told (nobody 12)
    -- Who, asked next after the whole sequence, names bench and number of the sheet's last entry that names the item, and how many of its entries name it
    pub who_next : (sheet item : ℕ) → sheet < sheet_count → answer_after log cs (ask (who sheet item)) ≡ told (who_last (entries_of sheet (work_after log cs).entries) item)
    -- Report, asked next, judges the sheet of all entries of its benches
    pub report_next : (sheet profile : ℕ) → sheet < sheet_count → profile < profile_count
        → answer_after log cs (ask (report sheet profile)) ≡ reported 0 (rows_of profile (sheet_of (entries_of sheet (work_after log cs).entries)))
