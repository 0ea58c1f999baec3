-- The requests of a link (RFC 9112, sections 2.1 and 3).
use Rattle.std.specs.Prelude.{ℕ, List, ◌++◌, codes, decimal, length, None, Some, ◌==◌, if◌then◌else◌}
use Rattle.std.specs.declared.option.Option.{Option}
use Rattle.targets.specs.Target.{port_text, query_text}
use Rattle.targets.specs.declared.target.Target.{Target}
use Rattle.upstream_gate.specs.declared.ask.Ask.{Ask}

-- a POST of a command (RFC 8007, sections 4.1 and 7.1), which asks for the connection's close
unfoldable pub post_text : Target → List ℕ → List ℕ
post_text to body = codes "POST " ++ to.path ++ query_text to.query ++ codes " HTTP/1.1\r\nHost: " ++ to.host
    ++ port_text to.port ++ codes "\r\nContent-Type: application/cdni; ptype=ci-trigger-command\r\nContent-Length: "
    ++ decimal (length body) ++ codes "\r\nConnection: close\r\n\r\n" ++ body

-- the port 80 is not named
abbrev pub port_at : ℕ → Option ℕ
port_at port = if port == 80 then None else Some port

-- what is asked of a status resource
abbrev pub ask_of : Target → Ask
ask_of place = record {
  endpoint = record { host = place.host; port = port_at place.port };
  target = place.path ++ query_text place.query;
}
