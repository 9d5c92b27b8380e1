use Rattle.std.proofs.Common.{◌≡◌, ℕ, ◌∙◌, ap}
use Rattle.std.specs.Int.{next_multiple_of}
use Rattle.std.proofs.lemmas.Result.{err_from_is_err_and}
use Rattle.image_layout.specs.Reading.{header_end}
use Rattle.image_layout.proofs.Read.{header_is, offset_wrong, middle_wrong, tail_wrong, image_right}
use Rattle.image_layout.proofs.reading.with_lists.Goals as goal

pub returns-in_err-judge_offset : goal.returns-in_err-judge_offset
returns-in_err-judge_offset c =
    let header = header_is c.args.bytes.now c.args.lists c.requires.lists in
    let offset : c.next_multiple_of.result ≡ next_multiple_of (header_end c.args.bytes.now) 16 = c.next_multiple_of.ensures.value
    ∙ ap (λ (n : ℕ). next_multiple_of n 16) header in
    let p = err_from_is_err_and c.from_residual.result c.from_residual.ensures.1 in
    rw (p.1, p.2) (offset_wrong c.args.bytes.now c.next_multiple_of.result c.in_err-judge_offset.field-0.0 _ offset
    c.in_err-judge_offset.ensures.answer)

pub returns-in_err-judge_middle : goal.returns-in_err-judge_middle
returns-in_err-judge_middle c =
    let header = header_is c.args.bytes.now c.args.lists c.requires.lists in
    let offset : c.next_multiple_of.result ≡ next_multiple_of (header_end c.args.bytes.now) 16 = c.next_multiple_of.ensures.value
    ∙ ap (λ (n : ℕ). next_multiple_of n 16) header in
    let p = err_from_is_err_and c.from_residual-in_err-judge_middle.result c.from_residual-in_err-judge_middle.ensures.1 in
    rw (p.1, p.2) (middle_wrong c.args.bytes.now c.next_multiple_of.result c.in_err-judge_middle.field-0.0 _ offset
    c.in_ok-judge_offset.ensures.answer c.in_err-judge_middle.ensures)

pub returns-in_err-judge_rest : goal.returns-in_err-judge_rest
returns-in_err-judge_rest c =
    let header = header_is c.args.bytes.now c.args.lists c.requires.lists in
    let offset : c.next_multiple_of.result ≡ next_multiple_of (header_end c.args.bytes.now) 16 = c.next_multiple_of.ensures.value
    ∙ ap (λ (n : ℕ). next_multiple_of n 16) header in
    let p = err_from_is_err_and c.from_residual-in_err-judge_rest.result c.from_residual-in_err-judge_rest.ensures.1 in
    rw (p.1, p.2) (tail_wrong c.args.bytes.now c.next_multiple_of.result c.args.lists.header c.in_err-judge_rest.field-0.0 _
    offset header c.in_ok-judge_offset.ensures.answer c.in_ok-judge_middle.ensures c.in_err-judge_rest.ensures.answer)

pub returns : goal.returns
returns c =
    let header = header_is c.args.bytes.now c.args.lists c.requires.lists in
    let offset : c.next_multiple_of.result ≡ next_multiple_of (header_end c.args.bytes.now) 16 = c.next_multiple_of.ensures.value
    ∙ ap (λ (n : ℕ). next_multiple_of n 16) header in
    image_right c.args.bytes.now c.next_multiple_of.result c.args.lists.header c.in_ok-make_image.field-0 offset header
    c.in_ok-judge_offset.ensures.answer c.in_ok-judge_middle.ensures c.in_ok-judge_rest.ensures.answer
    c.in_ok-make_image.ensures
