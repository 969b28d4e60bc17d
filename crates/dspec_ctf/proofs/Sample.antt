-- The definitions at small worked examples.
use Rattle.std.proofs.Common.{◌≡◌, ◌++◌, true, false, [], ◌∷◌, replicate, refl}
use Rattle.dspec_ctf.specs.Words.{EnabledRows, Record, event, packet, header_bytes, context_bytes, front_bytes, filled_around, filled_packet, filled_packets, portions, packet_count, span_of, One}
use Rattle.dspec_ctf.specs.Words.{Two, Eight}
use Rattle.dspec_record.specs.declared.header.Header.TheVariants as header

abbrev rows : EnabledRows
rows = record { header = header.One; rows = [] ∷ (Eight ∷ []) ∷ (One ∷ Two ∷ []) ∷ [] }

abbrev stamped : EnabledRows
stamped = record { header = header.Two; rows = rows.rows }

-- no gap between the two values, and none after them
event-of-two : event rows (record { epid = 3; stamp = 0; values = 171 ∷ 4660 ∷ [] }) ≡ 3 ∷ 0 ∷ 0 ∷ 0 ∷ 171 ∷ 52 ∷ 18 ∷ []
event-of-two = refl

-- eight bytes of stamp, the lowest first
event-with-stamp : event stamped (record { epid = 1; stamp = 72623859790382856; values = [] })
    ≡ 1 ∷ 0 ∷ 0 ∷ 0 ∷ 8 ∷ 7 ∷ 6 ∷ 5 ∷ 4 ∷ 3 ∷ 2 ∷ 1 ∷ []
event-with-stamp = refl

-- 52 bytes, or 416 bits
empty-packet : packet (replicate 16 7) rows 8 1 [] ≡ header_bytes (replicate 16 7)
    ++ (160 ∷ 1 ∷ 0 ∷ 0 ∷ 0 ∷ 0 ∷ 0 ∷ 0 ∷ 160 ∷ 1 ∷ 0 ∷ 0 ∷ 0 ∷ 0 ∷ 0 ∷ 0
    ∷ 8 ∷ 0 ∷ 0 ∷ 0 ∷ 0 ∷ 0 ∷ 0 ∷ 0 ∷ 1 ∷ 0 ∷ 0 ∷ 0 ∷ [])
unfolding front_bytes header_bytes context_bytes
empty-packet = refl

-- 4,096 events to a packet
full-packet : packet_count 0 4096 ≡ 1
full-packet = refl

one-more-event : packet_count 0 4097 ≡ 2
one-more-event = refl

none-missed : packet_count 0 0 ≡ 0
none-missed = refl

some-missed : packet_count 7 0 ≡ 1
some-missed = refl

first-and-last : span_of (record { epid = 1; stamp = 2; values = [] } ∷ record { epid = 1; stamp = 5; values = [] } ∷ []) ≡ (2, 5)
first-and-last = refl

-- a packet of a file without events: 52 bytes or 416 bits of 8,192, and zeros
filled-empty : filled_packets false rows (replicate 16 7) 8 1 [] ≡ header_bytes (replicate 16 7)
    ++ ((160 ∷ 1 ∷ 0 ∷ 0 ∷ 0 ∷ 0 ∷ 0 ∷ 0 ∷ 0 ∷ 32 ∷ 0 ∷ 0 ∷ 0 ∷ 0 ∷ 0 ∷ 0
    ∷ 8 ∷ 0 ∷ 0 ∷ 0 ∷ 0 ∷ 0 ∷ 0 ∷ 0 ∷ 1 ∷ 0 ∷ 0 ∷ 0 ∷ []) ++ replicate 972 0)
unfolding filled_packets filled_packet filled_around front_bytes header_bytes context_bytes
filled-empty = refl

-- by time one of a record with a stamp and no values: 80 bytes or 640 bits, from stamp 2 to stamp 2
filled-one : filled_packets true stamped (replicate 16 7) 8 1 (record { epid = 1; stamp = 2; values = [] } ∷ []) ≡ header_bytes (replicate 16 7)
    ++ ((2 ∷ 0 ∷ 0 ∷ 0 ∷ 0 ∷ 0 ∷ 0 ∷ 0 ∷ 2 ∷ 0 ∷ 0 ∷ 0 ∷ 0 ∷ 0 ∷ 0 ∷ 0
    ∷ 128 ∷ 2 ∷ 0 ∷ 0 ∷ 0 ∷ 0 ∷ 0 ∷ 0 ∷ 0 ∷ 32 ∷ 0 ∷ 0 ∷ 0 ∷ 0 ∷ 0 ∷ 0
    ∷ 8 ∷ 0 ∷ 0 ∷ 0 ∷ 0 ∷ 0 ∷ 0 ∷ 0 ∷ 1 ∷ 0 ∷ 0 ∷ 0 ∷ 1 ∷ 0 ∷ 0 ∷ 0 ∷ 2 ∷ 0 ∷ 0 ∷ 0 ∷ 0 ∷ 0 ∷ 0 ∷ 0 ∷ []) ++ replicate 944 0)
unfolding filled_packets filled_packet filled_around front_bytes header_bytes context_bytes
filled-one = refl

-- records without values, and with two, four and eight of eight bytes
wide : EnabledRows
wide = record { header = header.One; rows = [] ∷ replicate 2 Eight ∷ replicate 4 Eight ∷ replicate 8 Eight ∷ [] }

wide-stamped : EnabledRows
wide-stamped = record { header = header.Two; rows = [] ∷ replicate 2 Eight ∷ replicate 4 Eight ∷ replicate 8 Eight ∷ [] }

bare : Record
bare = record { epid = 1; stamp = 0; values = [] }

two : Record
two = record { epid = 2; stamp = 0; values = replicate 2 7 }

four : Record
four = record { epid = 3; stamp = 0; values = replicate 4 7 }

eight : Record
eight = record { epid = 4; stamp = 0; values = replicate 8 7 }

-- 52 bytes before the events, 14 events of 68 and one of 20 are 1,024: the next one begins another packet
full-as-taken : portions false wide (replicate 14 eight ++ two ∷ bare ∷ []) ≡ (replicate 14 eight ++ two ∷ []) ∷ (bare ∷ []) ∷ []
unfolding wide bare two eight
full-as-taken = refl

-- so are 68 bytes before the events, 12 events of 76 and one of 44, by time
full-by-time : portions true wide-stamped (replicate 12 eight ++ four ∷ bare ∷ []) ≡ (replicate 12 eight ++ four ∷ []) ∷ (bare ∷ []) ∷ []
unfolding wide-stamped bare four eight
full-by-time = refl
