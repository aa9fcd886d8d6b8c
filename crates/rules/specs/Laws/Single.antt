-- Document 01's job is a run of one: with j equal to 1 the definitions of P7 are those of document 01.
pub mod Rules
