-- The loops that decode a sequence follow its groups.
use Rattle.std.proofs.Common.{◌≡◌, ℕ, ◌+◌, ◌/◌, ◌%◌, ◌^◌, ◌<◌, ◌≤◌, List, [], ◌++◌, length, take, sym, ◌∙◌, ap, arith, append_assoc}
use Rattle.std.specs.List.{All}
use Rattle.std.proofs.lemmas.List.Elements.{All-same}
use Rattle.astc_model.specs.declared.level.Digit.{Digit}
use Rattle.astc_model.specs.declared.level.Digit.TheVariants.{Bits}
use Rattle.astc_model.specs.declared.level.Level.{Level}
use Rattle.astc_model.specs.Bits.{field_of}
use Rattle.astc_model.specs.Levels.{count_of, digit_of, low_bits_of, sequence_bits}
use Rattle.astc_model.specs.Sequences.{group_size, group_bits, group_values, values_in, sequence}
use Rattle.astc_model.proofs.BitLaws.{field_of-is}
use Rattle.ise_codec.proofs.GroupLaws.{group_values-low}
use Rattle.ise_codec.proofs.SequenceLaws.{values_in-more, values_in-last, length-sequence, sequence-lt}

-- a step of a loop decodes a complete group
pub group_step : (digit : Digit) (b n m z : ℕ) (group items whole : List ℕ)
    → items ++ values_in digit b n z ≡ whole → n ≡ group_size digit + m → group_bits digit b ≤ 64
    → group ≡ group_values digit b (z % 2 ^ 64) → (items ++ group) ++ values_in digit b m
    (z / 2 ^ group_bits digit b) ≡ whole
group_step digit b n m z group items whole before more small same =
    let rest : List ℕ = values_in digit b m (z / 2 ^ group_bits digit b) in
    let here : group ≡ group_values digit b z = same ∙ group_values-low digit b 64 z small in
    let both : group ++ rest ≡ values_in digit b n z = ap (λ xs. xs ++ rest) here
    ∙ sym (values_in-more digit b n m z more) in
    append_assoc items group rest ∙ ap (λ xs. items ++ xs) both ∙ before

-- the last step decodes the last group, which may be incomplete
pub group_last : (digit : Digit) (b n z : ℕ) (group items whole : List ℕ)
    → items ++ values_in digit b n z ≡ whole → n ≤ group_size digit → group_bits digit b ≤ 64
    → group ≡ group_values digit b (z % 2 ^ 64) → items ++ take n group ≡ whole
group_last digit b n z group items whole before last small same =
    let here : group ≡ group_values digit b z = same ∙ group_values-low digit b 64 z small in
    let cut : take n group ≡ values_in digit b n z = ap (take n) here
    ∙ sym (values_in-last digit b n z last) in
    ap (λ xs. items ++ xs) cut ∙ before

pub nothing_left : (b z : ℕ) → values_in Bits b 0 z ≡ []
nothing_left b z = values_in-last Bits b 0 z (omega arith)

-- the decoded integers are those of the sequence in the block
pub read_is : (digit : Digit) (b bits block at k : ℕ) (level : Level) (n : ℕ) (items : List ℕ)
    → digit ≡ digit_of level → b ≡ low_bits_of level → k ≡ sequence_bits level n → bits
    ≡ field_of block at k → items ≡ values_in digit b n bits → items
    ≡ sequence (block / 2 ^ at) level n
read_is digit b bits block at k level n items d l length_is field values =
    let bits_is : bits ≡ block / 2 ^ at % 2 ^ sequence_bits level n = field ∙ field_of-is block at k
    ∙ ap (λ x. block / 2 ^ at % 2 ^ x) length_is in
    values ∙ ap (λ x. values_in x b n bits) d ∙ ap (λ x. values_in (digit_of level) x n bits) l
    ∙ ap (values_in (digit_of level) (low_bits_of level) n) bits_is

pub read_len : (block at : ℕ) (level : Level) (n : ℕ) (items : List ℕ) → items
    ≡ sequence (block / 2 ^ at) level n → length items ≡ n
read_len block at level n items values = ap length values ∙ length-sequence (block / 2 ^ at) level n

pub read_under : (block at : ℕ) (level : Level) (n : ℕ) (items : List ℕ) → items
    ≡ sequence (block / 2 ^ at) level n → All (λ v. v < count_of level) items
read_under block at level n items values =
    All-same (λ v. v < count_of level) items (sequence (block / 2 ^ at) level n) values
    (sequence-lt (block / 2 ^ at) level n)
