use Rattle.std.proofs.Common.{◌≡◌, map, take, string_bytes, IfOk, rules, tests}
use Rattle.std.proofs.lemmas.Iterator.{YieldsList-from_slice, YieldsList-from_take, YieldsList-from_map, text_from_collect}
use Rattle.std.proofs.lemmas.Str.Ascii.{encodes-IsAscii}
use Rattle.std.specs.Str.{encode_utf8_all}
use Rattle.text.specs.Messages.{shown_byte}
use Rattle.text.proofs.Showing.{shown_ascii}
use Rattle.text.proofs.messages.shown.Goals as goal

pub returns : goal.returns
returns c =
    let line = c.args.line.now in
    let told : IfOk c.collect.result (λ t. string_bytes t ≡ encode_utf8_all (map shown_byte (take 120 line))) =
    text_from_collect c.collect.result c.collect.ensures.ran (YieldsList-from_map _ shown_byte (YieldsList-from_take 120 (YieldsList-from_slice line (search rules)) (search rules)) c.map.ensures.closure (λ x r q k. search (rules, tests))) in
    rw (encodes-IsAscii _ (shown_ascii (take 120 line))) at told
