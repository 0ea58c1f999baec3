-- The lines of a generated script.
use Rattle.std.specs.Prelude.{ℕ, List, ◌++◌, codes, decimal}

-- a line of this pass at this moment, which says these words, a number, and the rest
abbrev pub line : ℕ → ℕ → List ℕ → ℕ → List ℕ → List ℕ
line pass moment words number rest =
    decimal pass ++ codes " " ++ decimal moment ++ words ++ decimal number ++ rest

-- a request for the path of this number
abbrev pub get_line : ℕ → ℕ → ℕ → List ℕ
get_line pass moment path =
    line pass moment (codes " get GET http/1.1 192.0.2.7 as64496 us http://v.example/o/") path (codes "\n")

-- the answer to the fetch of this number: a body of one byte
abbrev pub got_line : ℕ → ℕ → ℕ → List ℕ
got_line pass moment fetch = line pass moment (codes " got ") fetch (codes " 200 - 61\n")

-- the end of the delivery of this number
abbrev pub finish_line : ℕ → ℕ → ℕ → List ℕ
finish_line pass moment delivery = line pass moment (codes " finish ") delivery (codes " 200 1 1\n")

-- a command to purge the path of this number
abbrev pub command_line : ℕ → ℕ → List ℕ
command_line moment path = line 0 moment
    (codes " command {\"cdn-path\":[\"AS64500:0\"],\"trigger\":{\"content.urls\":[\"http://v.example/o/")
    path (codes "\"],\"type\":\"purge\"}}\n")

-- a step of the trigger of this number
abbrev pub advance_line : ℕ → ℕ → List ℕ
advance_line moment trigger = line 0 moment (codes " advance ") trigger (codes "\n")

-- the deletion of the trigger of this number
abbrev pub delete_line : ℕ → ℕ → List ℕ
delete_line moment trigger = line 0 moment (codes " delete ") trigger (codes "\n")

-- a new log file
abbrev pub cut_line : ℕ → List ℕ
cut_line moment = codes "0 " ++ decimal moment ++ codes " cut\n"

-- the log file of this number is dropped
abbrev pub droplog_line : ℕ → ℕ → List ℕ
droplog_line moment file = line 0 moment (codes " droplog ") file (codes "\n")

-- the first lines: limits, and metadata by which one source serves `v.example`
unfoldable pub first_lines : List ℕ
first_lines = codes "limits 65536 100000 10000 64 60000 4611686018427387904\n"
    ++ codes "0 1000 refresh\n"
    ++ codes "0 1000 meta 1 http://up.example/i {\"hosts\":[{\"host\":\"v.example\",\"host-metadata\":{\"metadata\":["
    ++ codes "{\"generic-metadata-type\":\"MI.SourceMetadata\",\"generic-metadata-value\":"
    ++ codes "{\"sources\":[{\"endpoints\":[\"o.example\"],\"protocol\":\"http/1.1\"}]}}]}}]}\n"
