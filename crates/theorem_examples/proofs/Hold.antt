-- The examples of document 01 marked with [P], and those of requests, hold: antt computes each from the definitions.
-- Assumes nothing.
use mathlib.Core.Path.{◌≡◌, refl}
use mathlib.Core.List.{map}
use Rattle.text.specs.Run.{between, other, run_of, all, has_at, kind_at}
use Rattle.text_equality.specs.Same.{lower, same_by, begins_folded}
use Rattle.number_decimal.specs.Digits.{value_from}
use Rattle.number_decimal.specs.Reading.{closes_bracket, is_tail, size_of, unsigned_of, reading_of, is_number}
use Rattle.line_quotes.specs.Quoted.{is_quoted_by, is_quoted, text_of}
use Rattle.line_values.specs.Value.{may_begin, is_reserved, is_bare, is_value, is_unassigned}
use Rattle.line_items.specs.Items.{items, find_from}
use Rattle.line_reader.specs.Line.{split_of, class_of}
use Rattle.formula_terms.specs.Term.{is_count, count_of, term_of}
use Rattle.formula_terms.specs.Terms.{cut, some}
use Rattle.formula_elements.specs.Elements.{same_symbol, place_of, symbols, element_of, is_element, not_metals, is_metal, weights, weight_in, weight_of}
use Rattle.formula_sum.specs.Recognised.{all_recognised}
use Rattle.formula_order.specs.Order.{rank, order_key, rising, in_order}
use Rattle.formula_symbols.specs.Symbols.{has_term}
use Rattle.formula_class.specs.Class.{formula_class}
use Rattle.formula_sum.specs.Sum.{total_weight, sum_of}
use Rattle.rows_levels.specs.Bounds.{bounds, judged_of, grade_of, graded_of}
use Rattle.desk_state.specs.Lines.{appended, erased}
use Rattle.rows.specs.Rows.{missing}
use Rattle.rows_formula.specs.FormulaRows.{row1, row2, row3}
use Rattle.rows_weight.specs.WeightRows.{weighed_of, ratio_level, row4, far_apart, is_weighed_category, row5}
use Rattle.rows_graded.specs.GradedRows.{graded_row, old_name_row}
use Rattle.rows_threshold.specs.Threshold.{has_shape, multiplier_of, threshold_level, threshold_row, row12}
use Rattle.desk_soundness.specs.Sound.{every, sound_line, sound_empty, counted, sound_filled, sound_item, sound_lines, sound_sheet, sound_desk}
use Rattle.desk_soundness.specs.SoundLog.{counts_of, sound_log}
use Rattle.line_categories.specs.Categories.{is_category}
use Rattle.line_kinds.specs.Kinds.{passes, fits}
use Rattle.desk_state.specs.Desks.{sheet_of_bench}
use Rattle.desk_entries.specs.Entry.{open_to}
use Rattle.desk_keys.specs.Key.{stored, stored_if_open, key_step, key_of}
use Rattle.theorem_examples.specs.Table.{Example, sheet_with, answer_of, examples}

pub examples-hold : map (λ (e : Example). answer_of e.asked) examples ≡ map (λ (e : Example). e.answer) examples
unfolding sheet_with answer_of examples between other run_of all has_at lower same_by begins_folded value_from closes_bracket is_tail size_of unsigned_of reading_of is_number may_begin is_reserved is_bare is_quoted_by is_quoted is_value is_unassigned text_of items find_from is_category passes split_of class_of kind_at is_count count_of term_of cut some same_symbol place_of symbols element_of is_element not_metals is_metal weights weight_in weight_of all_recognised rank order_key rising in_order has_term formula_class total_weight sum_of bounds judged_of grade_of graded_of appended erased missing row1 row2 row3 weighed_of ratio_level row4 far_apart is_weighed_category row5 graded_row old_name_row has_shape multiplier_of threshold_level threshold_row row12 every sound_line sound_empty counted sound_filled sound_item sound_lines sound_sheet sound_desk counts_of sound_log fits sheet_of_bench stored open_to stored_if_open key_step key_of
examples-hold = refl
