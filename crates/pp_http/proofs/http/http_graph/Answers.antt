use Rattle.std.proofs.Common.{sym, subst, ap, ◌∙◌}
use Rattle.pp_http.specs.Accepted.{IsAccepted}
use Rattle.pp_http.proofs.HttpFlow.{http_accepted}
use Rattle.pp_graph.specs.Built.{built}
use Rattle.pp_http.specs.HttpGraph.{http_calls}
use Rattle.pp_http.proofs.HttpLemmas.{appended}
use Rattle.pp_http.proofs.KeptRules.{no_fault}
use Rattle.pp_http.proofs.http.http_graph.Goals as goal

pub returns-in-Ok-clause-exact : goal.returns-in-Ok-clause-exact
unfolding http_calls
returns-in-Ok-clause-exact c = c.in-Ok.ensures.ok.1 ∙ ap built
    (appended _ _ _ _ _ c.in_ok-add_rows-18.ensures.added c.message_end_rows.ensures.calls
    (appended _ _ _ _ _ c.in_ok-add_rows-17.ensures.added c.chunks_rows.ensures.calls
    (appended _ _ _ _ _ c.in_ok-add_rows-16.ensures.added c.until_close_rows.ensures.calls
    (appended _ _ _ _ _ c.in_ok-add_rows-15.ensures.added c.body_rows.ensures.calls
    (appended _ _ _ _ _ c.in_ok-add_rows-14.ensures.added c.framing_rows.ensures.calls
    (appended _ _ _ _ _ c.in_ok-add_rows-13.ensures.added c.head_end_rows.ensures.calls
    (appended _ _ _ _ _ c.in_ok-add_rows-12.ensures.added c.transfer_encoding_rows.ensures.calls
    (appended _ _ _ _ _ c.in_ok-add_rows-11.ensures.added c.content_length_rows.ensures.calls
    (appended _ _ _ _ _ c.in_ok-add_rows-10.ensures.added c.connection_rows.ensures.calls
    (appended _ _ _ _ _ c.in_ok-add_rows-9.ensures.added c.field_value_rows.ensures.calls
    (appended _ _ _ _ _ c.in_ok-add_rows-8.ensures.added c.field_name_rows.ensures.calls
    (appended _ _ _ _ _ c.in_ok-add_rows-7.ensures.added c.start_line_end_rows.ensures.calls
    (appended _ _ _ _ _ c.in_ok-add_rows-6.ensures.added c.status_rows.ensures.calls
    (appended _ _ _ _ _ c.in_ok-add_rows-5.ensures.added c.version_rows.ensures.calls
    (appended _ _ _ _ _ c.in_ok-add_rows-4.ensures.added c.target_rows.ensures.calls
    (appended _ _ _ _ _ c.in_ok-add_rows-3.ensures.added c.method_rows.ensures.calls
    (appended _ _ _ _ _ c.in_ok-add_rows-2.ensures.added c.start_rows.ensures.calls
    (appended _ _ _ _ _ c.in_ok-add_rows.ensures.added c.heading_rows.ensures.calls
    c.new-b.ensures))))))))))))))))))

pub returns-in-Ok-clause-accepted : goal.returns-in-Ok-clause-accepted
returns-in-Ok-clause-accepted c = subst IsAccepted (sym (returns-in-Ok-clause-exact c)) http_accepted

pub unreachable-requires : goal.unreachable-requires
unfolding http_calls
unreachable-requires c = no_fault c.add_rows-18.new.b c.in-Err-Broken.field-0 c.in-Err-Broken.field-0-0 c.in-Err-Broken.field-0-1
    (appended _ _ _ _ _ c.in_ok-add_rows-18.ensures.added c.message_end_rows.ensures.calls
    (appended _ _ _ _ _ c.in_ok-add_rows-17.ensures.added c.chunks_rows.ensures.calls
    (appended _ _ _ _ _ c.in_ok-add_rows-16.ensures.added c.until_close_rows.ensures.calls
    (appended _ _ _ _ _ c.in_ok-add_rows-15.ensures.added c.body_rows.ensures.calls
    (appended _ _ _ _ _ c.in_ok-add_rows-14.ensures.added c.framing_rows.ensures.calls
    (appended _ _ _ _ _ c.in_ok-add_rows-13.ensures.added c.head_end_rows.ensures.calls
    (appended _ _ _ _ _ c.in_ok-add_rows-12.ensures.added c.transfer_encoding_rows.ensures.calls
    (appended _ _ _ _ _ c.in_ok-add_rows-11.ensures.added c.content_length_rows.ensures.calls
    (appended _ _ _ _ _ c.in_ok-add_rows-10.ensures.added c.connection_rows.ensures.calls
    (appended _ _ _ _ _ c.in_ok-add_rows-9.ensures.added c.field_value_rows.ensures.calls
    (appended _ _ _ _ _ c.in_ok-add_rows-8.ensures.added c.field_name_rows.ensures.calls
    (appended _ _ _ _ _ c.in_ok-add_rows-7.ensures.added c.start_line_end_rows.ensures.calls
    (appended _ _ _ _ _ c.in_ok-add_rows-6.ensures.added c.status_rows.ensures.calls
    (appended _ _ _ _ _ c.in_ok-add_rows-5.ensures.added c.version_rows.ensures.calls
    (appended _ _ _ _ _ c.in_ok-add_rows-4.ensures.added c.target_rows.ensures.calls
    (appended _ _ _ _ _ c.in_ok-add_rows-3.ensures.added c.method_rows.ensures.calls
    (appended _ _ _ _ _ c.in_ok-add_rows-2.ensures.added c.start_rows.ensures.calls
    (appended _ _ _ _ _ c.in_ok-add_rows.ensures.added c.heading_rows.ensures.calls
    c.new-b.ensures))))))))))))))))))
    c.in-Err-Broken.field-0-is c.in-Err-Broken.ensures.broken
