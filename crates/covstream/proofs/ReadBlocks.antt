-- A text that is read block by block.
use Rattle.std.proofs.Common.{◌≡◌, ℕ, suc, ◌+◌, ◌<◌, ◌≤◌, min, List, [], ◌++◌, length, Option, ap, sym, ◌∙◌, arith, length-append, append-nil, append_assoc, inl, inr}
use Rattle.std.proofs.KnownBytes.{Consumes-nil, Consumes-trans}
use Rattle.std.specs.Io.KnownBytes.{Consumes, IsAtEnd}
use Rattle.covstream.specs.Blocks.{HasReadBlock, HasReadOn, IsReadFault}
use Rattle.covstream.specs.declared.fault.BlockFault.{BlockFault}
use Rattle.covstream.specs.declared.fault.BlockFault.TheVariants.{Unreadable, Memory}

-- these bytes were read and appended to the text, and `room` bytes more may be read
abbrev pub HasReadSo : ℕ → (left left_after : Option (List ℕ)) → (text text_after : List ℕ) → ℕ → Type 0
HasReadSo most left left_after text text_after room =
    (bytes : List ℕ) × Consumes left left_after bytes × (text_after ≡ text ++ bytes) × (length bytes + room ≡ most)

-- nothing is read yet
pub read_begun : (most : ℕ) (left : Option (List ℕ)) (text : List ℕ) → HasReadSo most left left text text most
read_begun most left text = ([], Consumes-nil left, sym (append-nil text), omega arith)

-- one more block is read
pub read_on : (most : ℕ) (old now new : Option (List ℕ)) (text text_now text_after : List ℕ) (room room_after wanted count : ℕ) → HasReadSo most old now text text_now room
    → HasReadBlock now new text_now text_after wanted count → room_after + count ≡ room → HasReadSo most old new text text_after room_after
read_on most old now new text text_now text_after room room_after wanted count (before, took_before, is_before, many) (bytes, took, is, long, few, ended) left = (
  before ++ bytes,
  Consumes-trans old now new before bytes took_before took,
  is ∙ ap (λ (t : List ℕ). t ++ bytes) is_before ∙ append_assoc text before bytes,
  omega (arith, length-append before bytes, many, long, left),
)

pub read_long : (now new : Option (List ℕ)) (text text_after : List ℕ) (room count : ℕ)
    → HasReadBlock now new text text_after room count → (length text_after ≡ length text + count) × (count ≤ room)
read_long now new text text_after room count (bytes, took, is, long, few, ended) =
    (ap length is ∙ length-append text bytes ∙ ap (λ (n : ℕ). length text + n) long, few)

pub read_ended : (now new : Option (List ℕ)) (text text_after : List ℕ) (room count : ℕ)
    → HasReadBlock now new text text_after room count → count ≡ 0 → 0 < room → IsAtEnd new
read_ended now new text text_after room count (bytes, took, is, long, few, ended) none wanted = ended none wanted

-- as many bytes were read as were asked for, or the source is at its end
pub read_full : (most : ℕ) (left left_after : Option (List ℕ)) (text text_after : List ℕ) (room : ℕ) → HasReadSo most left left_after text text_after room → room ≡ 0
    → HasReadOn most left left_after text text_after
read_full most left left_after text text_after room (bytes, took, is, many) none =
    (bytes, (took, inr (omega (arith, many, none))), is, omega (arith, many, none))

pub read_all : (most : ℕ) (left left_after : Option (List ℕ)) (text text_after : List ℕ) (room : ℕ) → HasReadSo most left left_after text text_after room → IsAtEnd left_after
    → HasReadOn most left left_after text text_after
read_all most left left_after text text_after room (bytes, took, is, many) end = (bytes, (took, inl end), is, omega (arith, many))

-- the source is at its end
pub read_over : (most : ℕ) (old now new : Option (List ℕ)) (text text_now text_after : List ℕ) (room wanted count : ℕ) → HasReadSo most old now text text_now room
    → HasReadBlock now new text_now text_after wanted count → count ≡ 0 → 0 < wanted → HasReadOn most old new text text_after
read_over most old now new text text_now text_after room wanted count so block none some =
    let left : room + count ≡ room = omega (arith, none) in
    read_all most old new text text_after room (read_on most old now new text text_now text_after room room wanted count so block left) (read_ended now new text_now text_after wanted count block none some)

pub read_so_long : (most : ℕ) (left left_after : Option (List ℕ)) (text text_after : List ℕ) (room : ℕ) → HasReadSo most left left_after text text_after room
    → length text_after + room ≡ length text + most
read_so_long most left left_after text text_after room (bytes, took, is, many) = omega (arith, ap length is, length-append text bytes, many)

-- a read that the block limits is a read of at most `room` bytes
pub read_within : (now new : Option (List ℕ)) (text text_after : List ℕ) (room block part count : ℕ) → 0 < block → part ≡ min room block
    → HasReadBlock now new text text_after part count → HasReadBlock now new text text_after room count
read_within now new text text_after room block part count some is (bytes, took, now_is, long, few, ended) =
    (bytes, took, now_is, long, omega (arith, few, is), λ none wanted. ended none (omega (arith, some, is, wanted)))

-- the next block isn't read, since a read failed or memory ran out
pub read_failed : (old now new : Option (List ℕ)) (text : List ℕ) (failed failed_now failed_new : ℕ) (fault : BlockFault) → Consumes old now text
    → failed_now ≡ failed → IsReadFault now new failed_now failed_new fault → IsReadFault old new failed failed_new fault
read_failed old now new text failed failed_now failed_new Unreadable before same (bytes, took, more) =
    (text ++ bytes, Consumes-trans old now new text bytes before took, more ∙ ap suc same)
read_failed old now new text failed failed_now failed_new Memory before same kept = kept ∙ same
