-- Records as words at a few small ones: a field of four bytes, and one byte with eight after it.
use Rattle.std.proofs.Common.{◌≡◌, ◌+◌, ◌-◌, ◌*◌, ◌^◌, List, [], ◌∷◌, ◌++◌, Some, None, refl}
use Rattle.dspec_record.specs.Words.{little_endian, record_text, packed_record, words_in, claim_of, claimed, mask_number, words_of_number, masked_words, IsClean}
use Rattle.dspec_record.specs.declared.field.Field.{Field, TheVariants.One, TheVariants.Four, TheVariants.Eight}
use Rattle.dspec_record.specs.declared.header.Header.TheVariants as header

abbrev small : List Field
small = Four ∷ []

abbrev wide : List Field
wide = One ∷ Eight ∷ []

-- the value stands above the EPID's four bytes
small_value : packed_record 1 0 small (5 * 2 ^ 32 ∷ []) ≡ record { epid = 1; stamp = 0; values = 5 ∷ [] }
small_value = refl

-- one byte, a gap of three, and a word
wide_values : packed_record 2 9 wide (7 * 2 ^ 32 ∷ 11 ∷ []) ≡ record { epid = 2; stamp = 9; values = 7 ∷ 11 ∷ [] }
wide_values = refl

wide_words : words_in wide ≡ 2
wide_words = refl

wide_masks : words_of_number 2 (mask_number 4 wide) ≡ 255 * 2 ^ 32 ∷ (2 ^ 64 - 1) ∷ []
wide_masks = refl

-- the EPID's bytes and the gap are cleared
wide_masked : masked_words ((2 ^ 64 - 1) ∷ 11 ∷ []) (words_of_number 9 (mask_number 4 wide)) ≡ 255 * 2 ^ 32 ∷ 11 ∷ []
wide_masked = refl

wide_clean : IsClean wide (7 * 2 ^ 32 ∷ 11 ∷ [])
wide_clean = refl

-- the bytes of a record with EPID and stamp, as its words are stored
wide_text : little_endian 8 (2 + 2 ^ 32 * 3) ++ (little_endian 8 (7 * 2 ^ 32 + 4) ++ little_endian 8 11) ≡ record_text header.Two wide (packed_record 2 (3 + 2 ^ 32 * 4) wide (7 * 2 ^ 32 ∷ 11 ∷ []))
wide_text = refl

-- a claim is the EPID and the widths
wide_claim : claim_of 2 wide ≡ 2 + 2 ^ 32 * (1 + 16 * 8)
wide_claim = refl

claim_true : claimed (small ∷ wide ∷ []) (claim_of 2 wide) 2 ≡ Some wide
claim_true = refl

-- other widths, another EPID, another number of words
claim_of_others : claimed (small ∷ wide ∷ []) (claim_of 2 small) 1 ≡ None
claim_of_others = refl

claim_of_none : claimed (small ∷ wide ∷ []) (claim_of 3 wide) 2 ≡ None
claim_of_none = refl

claim_of_less : claimed (small ∷ wide ∷ []) (claim_of 2 wide) 1 ≡ None
claim_of_less = refl

-- no claim is true of an enabling without fields
claim_of_no_field : claimed ([] ∷ []) (claim_of 1 []) 0 ≡ None
claim_of_no_field = refl
