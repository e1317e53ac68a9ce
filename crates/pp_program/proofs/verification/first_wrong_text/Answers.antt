use Rattle.std.proofs.Common.{subst, ap, arith, ℕ, ◌+◌, ◌<◌, ◌≡◌, length, map, Some, None, List}
use Rattle.pp_rules.specs.declared.declaration.PropDecl.{PropDecl}
use Rattle.pp_rules.specs.declared.declaration.HostDecl.{HostDecl}
use Rattle.pp_rules.specs.declared.declaration.SpanDecl.{SpanDecl}
use Rattle.pp_program.specs.declared.program.State.{State}
use Rattle.pp_program.specs.Names.{NameFails, ReasonFails, reasons_of, TextFails}
use Rattle.pp_program.specs.steps.Least.{IsFirst}
use Rattle.pp_program.proofs.TextLemmas.{text-prop, text-host, text-span, text-name, text-reason, text-none, within-names, within-list, within-reasons, lent}
use Rattle.pp_program.proofs.verification.first_wrong_text.Goals as goal

abbrev PropsFail : List PropDecl → ℕ → Type 0
PropsFail xs = NameFails (map (λ (d : PropDecl). d.name) xs)

abbrev HostsFail : List HostDecl → ℕ → Type 0
HostsFail xs = NameFails (map (λ (d : HostDecl). d.name) xs)

abbrev SpansFail : List SpanDecl → ℕ → Type 0
SpansFail xs = NameFails (map (λ (d : SpanDecl). d.name) xs)

abbrev ReasonsFail : List State → ℕ → Type 0
ReasonsFail xs = ReasonFails (reasons_of xs)

pub returns-in-Some : goal.returns-in-Some
returns-in-Some c =
    let found : IsFirst (PropsFail c.args.program.now.props) (Some c.in-Some.i) = lent PropsFail c.items-props.result.now c.args.program.now.props _ (Some c.in-Some.i) c.items-props.ensures c.in-Some.is c.in_ok-i.ensures in
    text-prop c.args.program.now c.in-Some.i found

pub returns-in-Some-2 : goal.returns-in-Some-2
returns-in-Some-2 c =
    let found : IsFirst (HostsFail c.args.program.now.hosts) (Some c.in-Some-2.i) = lent HostsFail c.items-hosts.result.now c.args.program.now.hosts _ (Some c.in-Some-2.i) c.items-hosts.ensures c.in-Some-2.is c.in_ok-i-2.ensures in
    let none-props : IsFirst (PropsFail c.args.program.now.props) None = lent PropsFail c.items-props.result.now c.args.program.now.props _ None c.items-props.ensures c.in_default.is c.in_ok-i.ensures in
    let size-props : length c.items-props.result.now ≡ length c.args.program.now.props = ap length c.items-props.ensures in
    let same : length c.args.program.now.props + c.in-Some-2.i ≡ length c.items-props.result.now + c.in-Some-2.i = omega (arith, size-props) in
    subst (λ n. IsFirst (TextFails c.args.program.now) (Some n)) same (text-host c.args.program.now c.in-Some-2.i none-props found)

pub overflow_add-result : goal.overflow_add-result
overflow_add-result c =
    let found : IsFirst (HostsFail c.args.program.now.hosts) (Some c.in-Some-2.i) = lent HostsFail c.items-hosts.result.now c.args.program.now.hosts _ (Some c.in-Some-2.i) c.items-hosts.ensures c.in-Some-2.is c.in_ok-i-2.ensures in
    let size-props : length c.items-props.result.now ≡ length c.args.program.now.props = ap length c.items-props.ensures in
    let low : c.in-Some-2.i < length c.args.program.now.hosts = within-names (λ (d : HostDecl). d.name) c.args.program.now.hosts c.in-Some-2.i found in
    omega (arith, low, c.requires.hosts, c.requires.props, size-props)

pub overflow_cast-result-in-Some-2 : goal.overflow_cast-result-in-Some-2
overflow_cast-result-in-Some-2 c =
    let found : IsFirst (HostsFail c.args.program.now.hosts) (Some c.in-Some-2.i) = lent HostsFail c.items-hosts.result.now c.args.program.now.hosts _ (Some c.in-Some-2.i) c.items-hosts.ensures c.in-Some-2.is c.in_ok-i-2.ensures in
    let size-props : length c.items-props.result.now ≡ length c.args.program.now.props = ap length c.items-props.ensures in
    let low : c.in-Some-2.i < length c.args.program.now.hosts = within-names (λ (d : HostDecl). d.name) c.args.program.now.hosts c.in-Some-2.i found in
    omega (arith, low, c.requires.hosts, c.requires.props, size-props)

pub returns-in-Some-3 : goal.returns-in-Some-3
returns-in-Some-3 c =
    let found : IsFirst (SpansFail c.args.program.now.spans) (Some c.in-Some-3.i) = lent SpansFail c.items-spans.result.now c.args.program.now.spans _ (Some c.in-Some-3.i) c.items-spans.ensures c.in-Some-3.is c.in_ok-i-3.ensures in
    let none-props : IsFirst (PropsFail c.args.program.now.props) None = lent PropsFail c.items-props.result.now c.args.program.now.props _ None c.items-props.ensures c.in_default.is c.in_ok-i.ensures in
    let none-hosts : IsFirst (HostsFail c.args.program.now.hosts) None = lent HostsFail c.items-hosts.result.now c.args.program.now.hosts _ None c.items-hosts.ensures c.in_default-2.is c.in_ok-i-2.ensures in
    let size-props : length c.items-props.result.now ≡ length c.args.program.now.props = ap length c.items-props.ensures in
    let size-hosts : length c.items-hosts.result.now ≡ length c.args.program.now.hosts = ap length c.items-hosts.ensures in
    let same : length c.args.program.now.props + length c.args.program.now.hosts + c.in-Some-3.i ≡ length c.items-props.result.now + length c.items-hosts.result.now + c.in-Some-3.i = omega (arith, size-props, size-hosts) in
    subst (λ n. IsFirst (TextFails c.args.program.now) (Some n)) same (text-span c.args.program.now c.in-Some-3.i none-props none-hosts found)

pub overflow_add-result-in-Some-3-2 : goal.overflow_add-result-in-Some-3-2
overflow_add-result-in-Some-3-2 c =
    let found : IsFirst (SpansFail c.args.program.now.spans) (Some c.in-Some-3.i) = lent SpansFail c.items-spans.result.now c.args.program.now.spans _ (Some c.in-Some-3.i) c.items-spans.ensures c.in-Some-3.is c.in_ok-i-3.ensures in
    let size-props : length c.items-props.result.now ≡ length c.args.program.now.props = ap length c.items-props.ensures in
    let size-hosts : length c.items-hosts.result.now ≡ length c.args.program.now.hosts = ap length c.items-hosts.ensures in
    let low : c.in-Some-3.i < length c.args.program.now.spans = within-names (λ (d : SpanDecl). d.name) c.args.program.now.spans c.in-Some-3.i found in
    omega (arith, low, c.requires.spans, c.requires.props, c.requires.hosts, size-props, size-hosts)

pub overflow_cast-result-in-Some-3 : goal.overflow_cast-result-in-Some-3
overflow_cast-result-in-Some-3 c =
    let found : IsFirst (SpansFail c.args.program.now.spans) (Some c.in-Some-3.i) = lent SpansFail c.items-spans.result.now c.args.program.now.spans _ (Some c.in-Some-3.i) c.items-spans.ensures c.in-Some-3.is c.in_ok-i-3.ensures in
    let size-props : length c.items-props.result.now ≡ length c.args.program.now.props = ap length c.items-props.ensures in
    let size-hosts : length c.items-hosts.result.now ≡ length c.args.program.now.hosts = ap length c.items-hosts.ensures in
    let low : c.in-Some-3.i < length c.args.program.now.spans = within-names (λ (d : SpanDecl). d.name) c.args.program.now.spans c.in-Some-3.i found in
    omega (arith, low, c.requires.spans, c.requires.props, c.requires.hosts, size-props, size-hosts)

pub returns-in-Some-4 : goal.returns-in-Some-4
returns-in-Some-4 c =
    let found : IsFirst (NameFails c.args.program.now.names) (Some c.in-Some-4.i) = lent NameFails c.items-names.result.now c.args.program.now.names _ (Some c.in-Some-4.i) c.items-names.ensures c.in-Some-4.is c.in_ok-i-4.ensures in
    let none-props : IsFirst (PropsFail c.args.program.now.props) None = lent PropsFail c.items-props.result.now c.args.program.now.props _ None c.items-props.ensures c.in_default.is c.in_ok-i.ensures in
    let none-hosts : IsFirst (HostsFail c.args.program.now.hosts) None = lent HostsFail c.items-hosts.result.now c.args.program.now.hosts _ None c.items-hosts.ensures c.in_default-2.is c.in_ok-i-2.ensures in
    let none-spans : IsFirst (SpansFail c.args.program.now.spans) None = lent SpansFail c.items-spans.result.now c.args.program.now.spans _ None c.items-spans.ensures c.in_default-3.is c.in_ok-i-3.ensures in
    let size-props : length c.items-props.result.now ≡ length c.args.program.now.props = ap length c.items-props.ensures in
    let size-hosts : length c.items-hosts.result.now ≡ length c.args.program.now.hosts = ap length c.items-hosts.ensures in
    let size-spans : length c.items-spans.result.now ≡ length c.args.program.now.spans = ap length c.items-spans.ensures in
    let same : length c.args.program.now.props + length c.args.program.now.hosts + length c.args.program.now.spans + c.in-Some-4.i ≡ length c.items-props.result.now + length c.items-hosts.result.now + length c.items-spans.result.now + c.in-Some-4.i = omega (arith, size-props, size-hosts, size-spans) in
    subst (λ n. IsFirst (TextFails c.args.program.now) (Some n)) same (text-name c.args.program.now c.in-Some-4.i none-props none-hosts none-spans found)

pub overflow_add-result-in-Some-4-3 : goal.overflow_add-result-in-Some-4-3
overflow_add-result-in-Some-4-3 c =
    let found : IsFirst (NameFails c.args.program.now.names) (Some c.in-Some-4.i) = lent NameFails c.items-names.result.now c.args.program.now.names _ (Some c.in-Some-4.i) c.items-names.ensures c.in-Some-4.is c.in_ok-i-4.ensures in
    let size-props : length c.items-props.result.now ≡ length c.args.program.now.props = ap length c.items-props.ensures in
    let size-hosts : length c.items-hosts.result.now ≡ length c.args.program.now.hosts = ap length c.items-hosts.ensures in
    let size-spans : length c.items-spans.result.now ≡ length c.args.program.now.spans = ap length c.items-spans.ensures in
    let low : c.in-Some-4.i < length c.args.program.now.names = within-list c.args.program.now.names c.in-Some-4.i found in
    omega (arith, low, c.requires.names, c.requires.props, c.requires.hosts, c.requires.spans, size-props, size-hosts, size-spans)

pub overflow_cast-result-in-Some-4 : goal.overflow_cast-result-in-Some-4
overflow_cast-result-in-Some-4 c =
    let found : IsFirst (NameFails c.args.program.now.names) (Some c.in-Some-4.i) = lent NameFails c.items-names.result.now c.args.program.now.names _ (Some c.in-Some-4.i) c.items-names.ensures c.in-Some-4.is c.in_ok-i-4.ensures in
    let size-props : length c.items-props.result.now ≡ length c.args.program.now.props = ap length c.items-props.ensures in
    let size-hosts : length c.items-hosts.result.now ≡ length c.args.program.now.hosts = ap length c.items-hosts.ensures in
    let size-spans : length c.items-spans.result.now ≡ length c.args.program.now.spans = ap length c.items-spans.ensures in
    let low : c.in-Some-4.i < length c.args.program.now.names = within-list c.args.program.now.names c.in-Some-4.i found in
    omega (arith, low, c.requires.names, c.requires.props, c.requires.hosts, c.requires.spans, size-props, size-hosts, size-spans)

pub returns-in-Some-first_wrong_reason : goal.returns-in-Some-first_wrong_reason
returns-in-Some-first_wrong_reason c =
    let found : IsFirst (ReasonsFail c.args.program.now.states) (Some c.in-Some-first_wrong_reason.i) = subst (λ xs. IsFirst (ReasonsFail xs) (Some c.in-Some-first_wrong_reason.i)) c.items.ensures c.in-Some-first_wrong_reason.ensures in
    let none-props : IsFirst (PropsFail c.args.program.now.props) None = lent PropsFail c.items-props.result.now c.args.program.now.props _ None c.items-props.ensures c.in_default.is c.in_ok-i.ensures in
    let none-hosts : IsFirst (HostsFail c.args.program.now.hosts) None = lent HostsFail c.items-hosts.result.now c.args.program.now.hosts _ None c.items-hosts.ensures c.in_default-2.is c.in_ok-i-2.ensures in
    let none-spans : IsFirst (SpansFail c.args.program.now.spans) None = lent SpansFail c.items-spans.result.now c.args.program.now.spans _ None c.items-spans.ensures c.in_default-3.is c.in_ok-i-3.ensures in
    let none-names : IsFirst (NameFails c.args.program.now.names) None = lent NameFails c.items-names.result.now c.args.program.now.names _ None c.items-names.ensures c.in_default-4.is c.in_ok-i-4.ensures in
    let size-props : length c.items-props.result.now ≡ length c.args.program.now.props = ap length c.items-props.ensures in
    let size-hosts : length c.items-hosts.result.now ≡ length c.args.program.now.hosts = ap length c.items-hosts.ensures in
    let size-spans : length c.items-spans.result.now ≡ length c.args.program.now.spans = ap length c.items-spans.ensures in
    let size-names : length c.items-names.result.now ≡ length c.args.program.now.names = ap length c.items-names.ensures in
    let same : length c.args.program.now.props + length c.args.program.now.hosts + length c.args.program.now.spans + length c.args.program.now.names + c.in-Some-first_wrong_reason.i ≡ length c.items-props.result.now + length c.items-hosts.result.now + length c.items-spans.result.now + length c.items-names.result.now + c.in-Some-first_wrong_reason.i = omega (arith, size-props, size-hosts, size-spans, size-names) in
    subst (λ n. IsFirst (TextFails c.args.program.now) (Some n)) same (text-reason c.args.program.now c.in-Some-first_wrong_reason.i none-props none-hosts none-spans none-names found)

pub overflow_add-result-in-Some-first_wrong_reason-4 : goal.overflow_add-result-in-Some-first_wrong_reason-4
overflow_add-result-in-Some-first_wrong_reason-4 c =
    let found : IsFirst (ReasonsFail c.args.program.now.states) (Some c.in-Some-first_wrong_reason.i) = subst (λ xs. IsFirst (ReasonsFail xs) (Some c.in-Some-first_wrong_reason.i)) c.items.ensures c.in-Some-first_wrong_reason.ensures in
    let size-props : length c.items-props.result.now ≡ length c.args.program.now.props = ap length c.items-props.ensures in
    let size-hosts : length c.items-hosts.result.now ≡ length c.args.program.now.hosts = ap length c.items-hosts.ensures in
    let size-spans : length c.items-spans.result.now ≡ length c.args.program.now.spans = ap length c.items-spans.ensures in
    let size-names : length c.items-names.result.now ≡ length c.args.program.now.names = ap length c.items-names.ensures in
    let low : c.in-Some-first_wrong_reason.i < length c.args.program.now.states = within-reasons c.args.program.now.states c.in-Some-first_wrong_reason.i found in
    omega (arith, low, c.requires.states, c.requires.props, c.requires.hosts, c.requires.spans, c.requires.names, size-props, size-hosts, size-spans, size-names)

pub overflow_cast-result-in-Some-first_wrong_reason : goal.overflow_cast-result-in-Some-first_wrong_reason
overflow_cast-result-in-Some-first_wrong_reason c =
    let found : IsFirst (ReasonsFail c.args.program.now.states) (Some c.in-Some-first_wrong_reason.i) = subst (λ xs. IsFirst (ReasonsFail xs) (Some c.in-Some-first_wrong_reason.i)) c.items.ensures c.in-Some-first_wrong_reason.ensures in
    let size-props : length c.items-props.result.now ≡ length c.args.program.now.props = ap length c.items-props.ensures in
    let size-hosts : length c.items-hosts.result.now ≡ length c.args.program.now.hosts = ap length c.items-hosts.ensures in
    let size-spans : length c.items-spans.result.now ≡ length c.args.program.now.spans = ap length c.items-spans.ensures in
    let size-names : length c.items-names.result.now ≡ length c.args.program.now.names = ap length c.items-names.ensures in
    let low : c.in-Some-first_wrong_reason.i < length c.args.program.now.states = within-reasons c.args.program.now.states c.in-Some-first_wrong_reason.i found in
    omega (arith, low, c.requires.states, c.requires.props, c.requires.hosts, c.requires.spans, c.requires.names, size-props, size-hosts, size-spans, size-names)

pub returns : goal.returns
returns c =
    let none-props : IsFirst (PropsFail c.args.program.now.props) None = lent PropsFail c.items-props.result.now c.args.program.now.props _ None c.items-props.ensures c.in_default.is c.in_ok-i.ensures in
    let none-hosts : IsFirst (HostsFail c.args.program.now.hosts) None = lent HostsFail c.items-hosts.result.now c.args.program.now.hosts _ None c.items-hosts.ensures c.in_default-2.is c.in_ok-i-2.ensures in
    let none-spans : IsFirst (SpansFail c.args.program.now.spans) None = lent SpansFail c.items-spans.result.now c.args.program.now.spans _ None c.items-spans.ensures c.in_default-3.is c.in_ok-i-3.ensures in
    let none-names : IsFirst (NameFails c.args.program.now.names) None = lent NameFails c.items-names.result.now c.args.program.now.names _ None c.items-names.ensures c.in_default-4.is c.in_ok-i-4.ensures in
    let none-reasons : IsFirst (ReasonsFail c.args.program.now.states) None = subst (λ xs. IsFirst (ReasonsFail xs) None) c.items.ensures c.in_default-first_wrong_reason.ensures in
    text-none c.args.program.now none-props none-hosts none-spans none-names none-reasons
