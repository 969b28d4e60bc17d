-- Cited by calls. Two texts of metadata by hand, and the layouts that they tell: one with a clock, of a process that is told, and one without either.
use Rattle.std.specs.Prelude.{ℕ, true, false, List, [], ◌∷◌, ◌++◌, codes}
use Rattle.dspec_ctf_reading.specs.Reading.{Layout}

-- up to the environment
abbrev pub front_text : List ℕ
front_text =
    codes "/* CTF 1.8 */\n\ntypealias integer { size = 8; align = 8; signed = false; } := uint8_t;\n"
    ++ codes "typealias integer { size = 16; align = 8; signed = false; } := uint16_t;\ntypealias integer { size = 32; align = 8; signed = false; } := uint32_t;\n"
    ++ codes "typealias integer { size = 64; align = 8; signed = false; } := uint64_t;\n\ntrace {\n\tmajor = 1;\n\tminor = 8;\n"
    ++ codes "\tuuid = \"00112233-4455-6677-8899-aabbccddeeff\";\n\tbyte_order = le;\n\tpacket.header := struct {\n\t\tuint32_t magic;\n\t\tuint8_t uuid[16];\n"
    ++ codes "\t\tuint32_t stream_id;\n\t};\n};\n\nenv {\n"

abbrev pub timed_text : List ℕ
timed_text = front_text
    ++ codes "\thostname = \"alder\";\n\tprocname = \"watch\";\n\tvpid = 4711;\n\ttracer_name = \"sidingyarrow\";\n};\n\nclock {\n\tname = stamp;\n"
    ++ codes "\tfreq = 1000000000;\n\tuuid = \"ffeeddcc-bbaa-9988-7766-554433221100\";\n\toffset_s = 1700000000;\n\toffset = 25;\n\tabsolute = true;\n};\n\n"
    ++ codes "typealias integer { size = 64; align = 8; signed = false; map = clock.stamp.value; } := stamp_t;\n\nstream {\n\tid = 0;\n"
    ++ codes "\tpacket.context := struct {\n\t\tstamp_t timestamp_begin;\n\t\tstamp_t timestamp_end;\n\t\tuint64_t content_size;\n\t\tuint64_t packet_size;\n"
    ++ codes "\t\tuint64_t events_discarded;\n\t\tuint32_t cpu_id;\n\t};\n\tevent.header := struct {\n\t\tuint32_t id;\n\t\tstamp_t timestamp;\n\t};\n};\n\n"
    ++ codes "event {\n\tid = 1;\n\tname = \"open\";\n\tstream_id = 0;\n\tfields := struct {\n\t\tenum : uint8_t { \"ok\" = 0, \"failed\" = 1, } status;\n"
    ++ codes "\t\tinteger { size = 32; align = 8; signed = true; } delta;\n\t\tfloating_point { exp_dig = 11; mant_dig = 53; align = 8; } load;\n\t};\n};\n\n"
    ++ codes "event {\n\tid = 2;\n\tname = \"epid_2\";\n\tstream_id = 0;\n\tfields := struct {\n\t};\n};\n"

abbrev pub timed_text_layout : Layout
timed_text_layout = record {
  timed = true;
  events =
      record {
        id = 1;
        name = codes "open";
        fields = record { name = codes "status"; width = 1 } ∷ record { name = codes "delta"; width = 4 } ∷ record { name = codes "load"; width = 8 } ∷ [];
      }
      ∷ record { id = 2; name = codes "epid_2"; fields = [] } ∷ [];
}

abbrev pub taken_text : List ℕ
taken_text = front_text
    ++ codes "\ttracer_name = \"sidingyarrow\";\n};\n\nstream {\n\tid = 0;\n\tpacket.context := struct {\n\t\tuint64_t content_size;\n\t\tuint64_t packet_size;\n"
    ++ codes "\t\tuint64_t events_discarded;\n\t\tuint32_t cpu_id;\n\t};\n\tevent.header := struct {\n\t\tuint32_t id;\n\t};\n};\n\nevent {\n\tid = 1;\n"
    ++ codes "\tname = \"state\";\n\tstream_id = 0;\n\tfields := struct {\n\t\tuint64_t stamp;\n\t\tuint8_t arg_0;\n\t\tuint16_t arg_1;\n\t};\n};\n"

abbrev pub taken_text_layout : Layout
taken_text_layout = record {
  timed = false;
  events =
      record {
        id = 1;
        name = codes "state";
        fields = record { name = codes "stamp"; width = 8 } ∷ record { name = codes "arg_0"; width = 1 } ∷ record { name = codes "arg_1"; width = 2 } ∷ [];
      }
      ∷ [];
}
