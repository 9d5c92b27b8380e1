use Rattle.std.proofs.Common.{◌≡◌, ◌+◌, ◌++◌, ◌∷◌, [], List, ℕ, ap, ◌∙◌, length, arith}
use Rattle.std.specs.List.{flat_map}
use Rattle.std.specs.Int.{next_multiple_of}
use Rattle.image_layout.specs.Spelling as spec
use Rattle.image_layout.proofs.Parts.{spelled, numbers_are}
use Rattle.image_layout.proofs.writing.write_image.Goals as goal

pub returns : goal.returns
returns c =
    let i = c.args.i.now in
    let offset = c.next_multiple_of-code_offset.result in
    let header_is : 48 + length c.as_slice.result.now ≡ 48 + length c.in_ok-lists.lists =
    ap (λ (x : List ℕ). 48 + length x) c.as_slice.ensures in
    let offset_is : offset ≡ spec.code_offset i = c.next_multiple_of-code_offset.ensures.value
    ∙ ap (λ (n : ℕ). next_multiple_of n 16) (header_is ∙ ap (λ (x : List ℕ). 48 + length x) c.in_ok-lists.ensures) in
    let numbers : List ℕ = i.version ∷ (offset + length c.as_slice-code.result.now + length c.as_slice-tables.result.now) ∷ offset
    ∷ length c.as_slice-code.result.now ∷ length c.as_slice-tables.result.now ∷ i.entry ∷ i.stack ∷ c.len.result
    ∷ c.len-2.result ∷ c.len-3.result ∷ length c.terms.result.now ∷ [] in
    record {
      within = c.requires;
      bytes_are = spelled i c.in_ok-lists.lists c.put_numbers.new.out c.extend_from_slice.new.self c.extend_from_slice-2.new.self
          c.extend_from_slice-3.new.self c.extend_from_slice-4.new.self
          numbers (48 + length c.as_slice.result.now) offset c.in_ok-lists.ensures header_is
          c.next_multiple_of-code_offset.ensures.value (omega (arith, c.next_multiple_of-code_offset.ensures.upper_bound))
          (c.in_ok-put_numbers.ensures ∙ ap (λ (x : List ℕ). x ++ flat_map spec.number numbers) c.in_ok-out.ensures)
          (numbers_are i offset c.as_slice-code.result.now c.as_slice-tables.result.now c.len.result c.len-2.result c.len-3.result
          c.terms.result.now offset_is c.as_slice-code.ensures c.as_slice-tables.ensures c.len.ensures c.len-2.ensures
          c.len-3.ensures c.terms.ensures)
          (c.in_ok-extend_from_slice.ensures.appended ∙ ap (λ (x : List ℕ). c.put_numbers.new.out ++ x) c.as_slice-2.ensures)
          c.in_ok-extend_from_slice-2.ensures.appended
          (c.in_ok-extend_from_slice-3.ensures.appended
          ∙ ap (λ (x : List ℕ). c.extend_from_slice-2.new.self ++ x) c.as_slice-code.ensures)
          (c.in_ok-extend_from_slice-4.ensures.appended
          ∙ ap (λ (x : List ℕ). c.extend_from_slice-3.new.self ++ x) c.as_slice-tables.ensures);
    }
