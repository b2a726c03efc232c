-- Document 02: what each request adds to document 01, in the order of the requests.
pub mod Choices
