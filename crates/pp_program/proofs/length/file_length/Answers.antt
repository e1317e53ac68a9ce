use Rattle.std.proofs.Common.{◌≡◌, ◌∙◌, ◌+◌, ap, refl}
use Rattle.std.specs.Prelude.{sum_by}
use Rattle.pp_rules.specs.declared.declaration.PropDecl.{PropDecl}
use Rattle.pp_rules.specs.declared.declaration.HostDecl.{HostDecl}
use Rattle.pp_rules.specs.declared.declaration.SpanDecl.{SpanDecl}
use Rattle.pp_program.specs.FileLength.{text_length, state_length}
use Rattle.pp_program.proofs.length.file_length.Goals as goal

pub returns : goal.returns
returns c =
    let props : c.props_length.result ≡ sum_by (λ (d : PropDecl). text_length d.name + 1) c.args.program.now.props = c.props_length.ensures.value ∙ ap (sum_by (λ (d : PropDecl). text_length d.name + 1)) c.items.ensures in
    let hosts : c.hosts_length.result ≡ sum_by (λ (d : HostDecl). text_length d.name + 1) c.args.program.now.hosts = c.hosts_length.ensures.value ∙ ap (sum_by (λ (d : HostDecl). text_length d.name + 1)) c.items-2.ensures in
    let spans : c.spans_length.result ≡ sum_by (λ (d : SpanDecl). text_length d.name) c.args.program.now.spans = c.spans_length.ensures.value ∙ ap (sum_by (λ (d : SpanDecl). text_length d.name)) c.items-3.ensures in
    let names : c.names_length.result ≡ sum_by text_length c.args.program.now.names = c.names_length.ensures.value ∙ ap (sum_by text_length) c.items-4.ensures in
    let states : c.states_length.result ≡ sum_by state_length c.args.program.now.states = c.states_length.ensures.value ∙ ap (sum_by state_length) c.items-5.ensures in
    rw (c.finish_length.ensures.value, props, hosts, spans, names, states) refl
